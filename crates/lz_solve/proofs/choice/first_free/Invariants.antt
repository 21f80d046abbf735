use Rattle.lz_solve.specs.Search.{AreAssigned}
use Rattle.lz_solve.proofs.choice.first_free.Given as goal

abbrev pub invariant-loop-variable : goal.invariant-loop-variable
invariant-loop-variable l = AreAssigned l.trail.set l.variable
