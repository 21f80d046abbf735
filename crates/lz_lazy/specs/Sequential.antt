-- Trusted: what the straight program of a flat one decides.
use Rattle.std.specs.Prelude.{ℕ, List, slice_index, ◌↔◌}
use Rattle.lz_flat.specs.Programs.{FlatProgram, StraightProgram}
use Rattle.lz_flat.specs.FlatRuns.{FlatBroken, DrivesBreak}
use Rattle.lz_flat.specs.StraightRuns.{FailsOn, IsInputList}

-- it fails on a list of inputs exactly where the inputs drive the flat program to a break within so many
-- rounds
abbrev pub FailsAsDriven : FlatProgram → ℕ → StraightProgram → Type 0
FailsAsDriven flat rounds straight =
    (inputs : List ℕ) → IsInputList straight inputs → FailsOn straight inputs ↔ DrivesBreak flat rounds (slice_index inputs)

-- it fails on some list of inputs exactly where some run of the flat program of at most so many rounds breaks
abbrev pub FailsWhereBroken : FlatProgram → ℕ → StraightProgram → Type 0
FailsWhereBroken flat rounds straight =
    ((inputs : List ℕ) × IsInputList straight inputs × FailsOn straight inputs) ↔ FlatBroken flat rounds
