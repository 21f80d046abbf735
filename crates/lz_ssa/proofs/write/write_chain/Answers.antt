use Rattle.std.proofs.Common.{arith}
use Rattle.lz_ssa.proofs.LoopsLemmas.{write_turns, write_ends}
use Rattle.lz_ssa.proofs.write.write_chain.Goals as goal

pub loop-place-preserved : goal.loop-place-preserved
loop-place-preserved c = (write_turns _ _ _ _ _ c.loop-place-test.true c.loop-place.invariant.0 c.in_ok-write_turn.ensures.drawn, omega arith)

pub returns-clause-drawn : goal.returns-clause-drawn
returns-clause-drawn c = write_ends _ _ _ _ c.loop-place.place (omega arith) c.loop-place.invariant.0
