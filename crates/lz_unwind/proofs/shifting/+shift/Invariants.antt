use Rattle.std.proofs.Common.{◌≡◌, map}
use Rattle.lz_tree.specs.ScopedTrees.{scoped_expression, scoped_expressions_of}
use Rattle.lz_unwind.specs.Moved as spec
use Rattle.lz_unwind.proofs.ShiftingLemmas.{so_far}
use Rattle.lz_unwind.proofs.shifting.+shift.Given as goal

-- what was moved so far and what is left are all
abbrev pub invariant-shift_all-loop-e : goal.invariant-shift_all-loop-e
invariant-shift_all-loop-e l = spec.shift_all l.by (scoped_expressions_of (map scoped_expression l.args)) ≡ so_far l.by l.all.items l.args l.e-index
