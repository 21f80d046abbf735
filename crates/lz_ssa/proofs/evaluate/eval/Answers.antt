use Rattle.std.proofs.Common.{◌≡◌, ◌+◌, ◌∙◌, length, take, slice_index_or, arith}
use Rattle.std.proofs.lemmas.List.{length-take-le, get_or_default}
use Rattle.lz_ssa.specs.declared.node.Node.{Node}
use Rattle.lz_ssa.specs.declared.node.Node.TheVariants.{Constant}
use Rattle.lz_ssa.proofs.EvaluateLemmas.{node_at, evaluates_on, evaluates_end}
use Rattle.lz_ssa.proofs.evaluate.eval.Goals as goal

pub word_of-requires-clause-formed : goal.word_of-requires-clause-formed
word_of-requires-clause-formed c =
    let list = c.args.nodes.now.list in
    let i = c.loop-i.i in
    let node : Node = slice_index_or list i (Constant 0) in
    let lt = rw c.items-list.ensures at c.loop-i-test.true in
    let here = node_at c.args.nodes.now.inputs 0 list i node c.requires.formed.list lt (get_or_default list i (Constant 0) node lt) in
    let size = c.loop-i.invariant.size in
    let long : length (take i c.loop-i.values) ≡ 0 + i = length-take-le i c.loop-i.values (omega arith) ∙ (let z : i ≡ 0 + i = omega arith in z) in
    rw (c.items-list.ensures, c.requires.inputs, long) here

pub loop-i-preserved : goal.loop-i-preserved
loop-i-preserved c =
    let list = c.items-list.result.now in
    let i = c.loop-i.i in
    let node : Node = slice_index_or list i (Constant 0) in
    evaluates_on _ list i c.loop-i.values node c.word_of.result c.loop-i.invariant c.loop-i-test.true (get_or_default list i (Constant 0) node c.loop-i-test.true) c.word_of.ensures.value c.word_of.ensures.word

pub returns : goal.returns
returns c =
    let end_ = evaluates_end _ c.items-list.result.now c.loop-i.i c.loop-i.values c.loop-i.invariant (omega arith) in
    rw c.items-list.ensures at end_
