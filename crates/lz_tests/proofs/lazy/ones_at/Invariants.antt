use Rattle.std.proofs.Common.{◌≡◌, length, All}
use Rattle.lz_flat.specs.WellFormed.{IsWord}
use Rattle.lz_tests.proofs.lazy.ones_at.Given as goal

abbrev pub invariant-loop-i : goal.invariant-loop-i
invariant-loop-i l = All IsWord l.inputs × (length l.inputs ≡ l.i-counter)
