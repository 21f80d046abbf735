use Rattle.std.proofs.Common.{◌≤◌, []}
use Rattle.lz_analyze.specs.Walking.{IsWalkOver}
use Rattle.lz_analyze.proofs.walk.Walk.run.Given as goal

abbrev pub invariant-loop-self : goal.invariant-loop-self
invariant-loop-self l = IsWalkOver l.trail [] l.self × (l.left ≤ l.self.pending)

abbrev pub decreases-loop-self : goal.decreases-loop-self
decreases-loop-self l = l.self.at
