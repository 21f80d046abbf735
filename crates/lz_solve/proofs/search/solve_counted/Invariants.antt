use Rattle.std.proofs.Common.{◌+◌, ◌-◌, ◌*◌, length}
use Rattle.lz_solve.specs.Search.{IsSearch}
use Rattle.lz_solve.proofs.search.solve_counted.Given as goal

abbrev pub invariant-loop-log : goal.invariant-loop-log
invariant-loop-log l = IsSearch l.formula l.conflicts l.trail l.log

abbrev pub decreases-loop-log : goal.decreases-loop-log
decreases-loop-log l = (l.conflicts - length l.log) * (l.formula.variables + 1) + (l.formula.variables - length l.trail.set)
