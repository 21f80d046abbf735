use Rattle.std.proofs.Common.{get_or}
use Rattle.std.proofs.lemmas.List.{get_or_default}
use Rattle.lz_ssa.specs.declared.node.Node.TheVariants.{Constant}
use Rattle.lz_fold.specs.Folding.{IsNeeded}
use Rattle.lz_fold.proofs.GoingLemmas.{went_start, operands_of}
use Rattle.lz_fold.proofs.ConeLemmas.{keep_turn}
use Rattle.lz_fold.proofs.cone.keep.Goals as goal

pub loop-i-init : goal.loop-i-init
loop-i-init c = went_start (IsNeeded c.args.flags.now) c.args.nodes.now.inputs c.items-list.result.now c.new-out.result c.new-places.result c.new-out.ensures c.new-places.ensures

pub keep_next-requires-clause-operands : goal.keep_next-requires-clause-operands
keep_next-requires-clause-operands c =
    operands_of (IsNeeded c.args.flags.now) c.args.nodes.now c.items-list.result.now c.loop-i.out c.loop-i.places c.items.result.now c.loop-i.i (get_or c.items-list.result.now c.loop-i.i (Constant 0)) c.requires.formed
    c.items-list.ensures c.loop-i-test.true (get_or_default c.items-list.result.now c.loop-i.i (Constant 0) (get_or c.items-list.result.now c.loop-i.i (Constant 0)) c.loop-i-test.true) c.loop-i.invariant c.items.ensures

pub loop-i-preserved : goal.loop-i-preserved
loop-i-preserved c =
    keep_turn c.args.nodes.now c.args.flags.now c.items-list.result.now c.loop-i.out c.keep_next.new.out c.loop-i.places c.items.result.now c.push.new.self c.loop-i.i c.in_ok-number.number
    (get_or c.items-list.result.now c.loop-i.i (Constant 0)) c.requires.formed c.items-list.ensures c.loop-i-test.true
    (get_or_default c.items-list.result.now c.loop-i.i (Constant 0) (get_or c.items-list.result.now c.loop-i.i (Constant 0)) c.loop-i-test.true)
    c.requires.closed c.items.ensures c.in_ok-number.ensures.kept c.in_ok-number.ensures.number c.in_ok-push.ensures.ok c.loop-i.invariant
