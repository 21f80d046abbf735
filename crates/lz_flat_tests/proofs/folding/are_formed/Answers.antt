use Rattle.lz_ssa.specs.declared.node.Node.TheVariants.{Constant}
use Rattle.lz_flat_tests.proofs.FoldingLemmas.{formed_none, formed_turn, formed_end}
use Rattle.lz_flat_tests.proofs.folding.are_formed.Goals as goal

pub loop-i-init : goal.loop-i-init
loop-i-init c = formed_none

pub loop-i-preserved : goal.loop-i-preserved
loop-i-preserved c = formed_turn c.args.row.now c.loop-i.i (Constant 0) c.loop-i-test.true c.loop-i.invariant (c.may_stand.ensures c.if-not-may_stand.false)

pub returns : goal.returns
returns c = λ yes_. formed_end c.args.row.now c.loop-i.i c.loop-i-test.false c.loop-i.invariant
