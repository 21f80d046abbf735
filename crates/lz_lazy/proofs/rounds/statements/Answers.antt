use Rattle.std.proofs.Common.{arith}
use Rattle.lz_lazy.proofs.RoundingLemmas.{round_turn, rounds_done}
use Rattle.lz_lazy.proofs.rounds.statements.Goals as goal

pub loop-preserved : goal.loop-preserved
loop-preserved c = round_turn c.args.flat.now _ c.loop-test.true c.loop.invariant c.in_ok-push_round.ensures

pub returns : goal.returns
returns c = rounds_done c.args.flat.now c.loop.counter _ _ (omega arith) c.loop.invariant
