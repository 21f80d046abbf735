use Rattle.std.proofs.Common.{◌≡◌}
use Rattle.lz_solve.proofs.choice.raise_clause.Given as goal

abbrev pub invariant-loop-lit : goal.invariant-loop-lit
invariant-loop-lit l = l.order.count ≡ l.initial.order.count
