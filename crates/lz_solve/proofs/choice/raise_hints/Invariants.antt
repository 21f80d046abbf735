use Rattle.std.proofs.Common.{◌≡◌}
use Rattle.lz_solve.proofs.choice.raise_hints.Given as goal

abbrev pub invariant-loop-at : goal.invariant-loop-at
invariant-loop-at l = l.order.count ≡ l.initial.order.count
