use Rattle.std.proofs.Common.{◌≡◌, ℕ, ◌<◌, length, slice_get}
use Rattle.lz_prop.specs.Trail.{entry_of, value_in}
use Rattle.lz_solve.proofs.search.values_of.Given as goal

abbrev pub invariant-loop-variable : goal.invariant-loop-variable
invariant-loop-variable l = (length l.values ≡ l.variable) × ((v : ℕ) → v < l.variable → slice_get l.values v ≡ value_in (entry_of l.trail.set v))
