use Rattle.std.proofs.Common.{◌≡◌}
use Rattle.lz_solve.proofs.order.Order.rise.Given as goal

abbrev pub invariant-loop-at : goal.invariant-loop-at
invariant-loop-at l = l.self.count ≡ l.initial.self.count

abbrev pub decreases-loop-at : goal.decreases-loop-at
decreases-loop-at l = l.at
