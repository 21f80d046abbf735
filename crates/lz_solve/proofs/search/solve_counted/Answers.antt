use Rattle.std.proofs.Common.{subst}
use Rattle.lz_solve.specs.Turns.{IsTurn}
use Rattle.lz_solve.proofs.SearchLemmas.{turn_smaller}
use Rattle.lz_solve.proofs.search.solve_counted.Goals as goal

pub loop-log-smaller : goal.loop-log-smaller
loop-log-smaller c =
    turn_smaller c.args.formula.now c.args.conflicts c.loop-log.trail c.take_turn.new.trail c.loop-log.log c.take_turn.new.log c.loop-log.invariant
    (subst (IsTurn c.args.formula.now c.args.conflicts c.loop-log.trail c.loop-log.log c.take_turn.new.trail c.take_turn.new.log) c.in-Next.is c.in_ok-turn.ensures)
