-- Trusted: runs of a straight program, and when it fails.
use Rattle.std.specs.Prelude.{◌≡◌, ℕ, suc, ◌<◌, ◌==◌, List, [], ◌∷◌, length, slice_index, if◌then◌else◌}
use Rattle.std.specs.List.{AllByRecursion}
use Rattle.lz_base.specs.Words.{value_bound}
use Rattle.lz_flat.specs.Programs.{Statement, StraightProgram}
use Rattle.lz_flat.specs.Instructions.{Did, moved, blocked, broke, value, did}

-- What statements come to: a memory; nothing more, since an assumption of 0 was met; or a check of 0,
-- before which no assumption of 0 was met.
pub data Fate : Type 0 where
  still : (memory : List ℕ) → Fate
  stops : Fate
  fails : Fate

-- what follows a statement
abbrev pub fate_behind : Did → (List ℕ → Fate) → Fate
fate_behind (moved over memory) next = next memory
fate_behind blocked next = stops
fate_behind (broke kind line) next = fails

-- The statements, the first of which is statement i, and has input i. A statement whose guard is 0 does
-- nothing.
unfoldable pub straight : (ℕ → ℕ) → ℕ → List Statement → List ℕ → Fate
straight input i [] memory = still memory
straight input i (first ∷ rest) memory =
    if value first.guard memory == 0 then straight input (suc i) rest memory
    else fate_behind (did first.instr (input i) memory) (straight input (suc i) rest)

-- the straight program fails on a list of inputs
abbrev pub FailsOn : StraightProgram → List ℕ → Type 0
FailsOn program inputs = straight (slice_index inputs) 0 program.list program.first ≡ fails

-- an input for each statement, each below 2 ^ 32
abbrev pub IsInputList : StraightProgram → List ℕ → Type 0
IsInputList program inputs = (length inputs ≡ length program.list) × AllByRecursion (λ v. v < value_bound) inputs
