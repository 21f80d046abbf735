use Rattle.std.proofs.Common.{arith}
use Rattle.lz_arith.proofs.FreshLemmas.{freshens_none, freshens_more}
use Rattle.lz_circuit_tests.proofs.words.fresh_word.Goals as goal

pub loop-i-init : goal.loop-i-init
loop-i-init c = rw c.new-bits.ensures (freshens_none _)

pub fresh-requires : goal.fresh-requires
fresh-requires c = record { room = omega (arith, c.requires.room, c.loop-i.invariant.variables, c.loop-i-test.true) }

pub loop-i-preserved : goal.loop-i-preserved
loop-i-preserved c = rw c.in_ok-push.ensures.ok (freshens_more _ c.loop-i.invariant c.in_ok-lit.ensures.lit c.in_ok-lit.ensures.variables)
