-- Inner: what the nodes of a straight program decide.
use Rattle.std.specs.Prelude.{ℕ, List, slice_index, ◌↔◌}
use Rattle.lz_flat.specs.Programs.{StraightProgram}
use Rattle.lz_flat.specs.StraightRuns.{FailsOn, IsInputList}
use Rattle.lz_ssa.specs.declared.node.Nodes.{Nodes}
use Rattle.lz_ssa.specs.NodeValues.{FailsAt}

-- on each list of inputs, the node `fails` is not 0 exactly where the straight program fails
abbrev pub FailsAsStraight : StraightProgram → Nodes → Type 0
FailsAsStraight straight nodes =
    (inputs : List ℕ) → IsInputList straight inputs → FailsAt nodes (slice_index inputs) ↔ FailsOn straight inputs
