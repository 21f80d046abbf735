use Rattle.std.proofs.Common.{refl}
use Rattle.lz_arith.proofs.OpenLemmas.{open_none, open_more, open_all, open_true}
use Rattle.lz_arith.proofs.nonzero.open_literals.Goals as goal

pub loop-i-init : goal.loop-i-init
loop-i-init c = rw c.new-kept.ensures (open_none _ _ c.args.bits.now)

pub loop-i-preserved : goal.loop-i-preserved
loop-i-preserved c = open_more _ _ c.loop-i.invariant c.loop-i-test.true refl c.in_ok-push_open.ensures

pub returns : goal.returns
returns c = open_all c.loop-i.invariant c.loop-i-test.false

pub returns-then-lit-on : goal.returns-then-lit-on
returns-then-lit-on c = open_true _ c.loop-i-test.true refl c.if-lit-on.true c.in_ok-one.ensures
