use Rattle.std.proofs.Common.{◌≤◌, length}
use Rattle.lz_solve.proofs.choice.release.Given as goal

abbrev pub invariant-loop-left : goal.invariant-loop-left
invariant-loop-left l = (l.left ≤ length l.lits) × (l.initial.order.count ≤ l.order.count)

abbrev pub decreases-loop-left : goal.decreases-loop-left
decreases-loop-left l = l.left
