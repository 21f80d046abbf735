-- Inner: what the calls that run instructions leave behind.
use Rattle.std.specs.Prelude.{◌≡◌, ◌≢◌, ◌⊎◌, ℕ, zero, suc, List, [], ◌∷◌, ◌++◌, length, drop, Result, Ok, Err, if◌then◌else◌}
use Rattle.lz_base.specs.declared.word.BreakKind.{BreakKind}
use Rattle.lz_flat.specs.declared.perform.Halt.{Halt}
use Rattle.lz_flat.specs.declared.perform.Halt.TheVariants as halts
use Rattle.lz_flat.specs.declared.step.Stepped.{Stepped}
use Rattle.lz_flat.specs.declared.step.Stepped.TheVariants as stepped
use Rattle.lz_flat.specs.Programs.{Expression, Instruction, checks, MarkedInstruction, Statement}
use Rattle.lz_flat.specs.Instructions.{Did, moved, blocked, broke, value, did}
use Rattle.lz_flat.specs.FlatRuns.{went, held, breaks, ended, onward, step}
use Rattle.lz_flat.specs.Places.{places_run}

-- an instruction came to this, from one memory to another
abbrev pub Performs : Instruction → ℕ → List ℕ → List ℕ → Result ℕ Halt → Type 0
Performs i input before after (Ok over) = did i input before ≡ moved over after
Performs i input before after (Err halts.Blocked) = (did i input before ≡ blocked) × (after ≡ before)
Performs i input before after (Err (halts.Broke kind line)) = (did i input before ≡ broke kind line) × (after ≡ before)

-- ---- how many instructions a step runs

-- what follows an instruction, as a count
abbrev pub count_behind : Did → (ℕ → List ℕ → ℕ) → ℕ
count_behind (moved over memory) next = next over memory
count_behind blocked next = 0
count_behind (broke kind line) next = 0

-- the instructions that run on from place l, whose code this is, after so many are passed over, up to the next
-- visible one or the end
unfoldable pub onward_count : (ℕ → ℕ) → ℕ → List MarkedInstruction → ℕ → List ℕ → ℕ
onward_count input l [] over memory = 0
onward_count input l (first ∷ rest) (suc over) memory = onward_count input (suc l) rest over memory
onward_count input l (first ∷ rest) zero memory =
    if first.visible then 0 else suc (count_behind (did first.instr (input l) memory) (onward_count input (suc l) rest))

-- the instructions of a step whose first one stands first in this code, at this place
abbrev pub count_from : (ℕ → ℕ) → ℕ → List MarkedInstruction → List ℕ → ℕ
count_from input place [] memory = 0
count_from input place (first ∷ rest) memory =
    suc (count_behind (did first.instr (input place) memory) (onward_count input (suc place) rest))

-- the instructions that a step of this code from this place runs
unfoldable pub step_count : (ℕ → ℕ) → List MarkedInstruction → ℕ → List ℕ → ℕ
step_count input code place memory = count_from input place (drop place code) memory

-- ---- a step

-- the instructions behind the first of a step, from a place on, came to this
abbrev pub RunsOn : List MarkedInstruction → (ℕ → ℕ) → ℕ → List ℕ → List ℕ → Result (ℕ × ℕ) Halt → Type 0
RunsOn code input from before after (Ok end) =
    (onward input from (drop from code) 0 before ≡ went end.0 after) × (end.1 ≡ suc (onward_count input from (drop from code) 0 before))
RunsOn code input from before after (Err halts.Blocked) = ⊥
RunsOn code input from before after (Err (halts.Broke kind line)) = onward input from (drop from code) 0 before ≡ breaks kind line

-- what a step came to that ran so many instructions or was stopped
abbrev pub stepped_so : Result ℕ Halt → Stepped
stepped_so (Ok used) = stepped.Went used
stepped_so (Err halts.Blocked) = stepped.Blocked
stepped_so (Err (halts.Broke kind line)) = stepped.Broke kind line

-- A step came to this, and led from one place and memory to another. It is blocked exactly where its first
-- instruction is an assumption of 0, and has ended exactly where no instruction is left.
abbrev pub Steps : List MarkedInstruction → (ℕ → ℕ) → ℕ → ℕ → List ℕ → List ℕ → Stepped → Type 0
Steps code input place next before after (stepped.Went used) =
    (step input code place before ≡ went next after) × (used ≡ step_count input code place before)
Steps code input place next before after stepped.Blocked = (step input code place before ≡ held) × (next ≡ place) × (after ≡ before)
Steps code input place next before after (stepped.Broke kind line) = (step input code place before ≡ breaks kind line) × (next ≡ place)
Steps code input place next before after stepped.Ended = (step input code place before ≡ ended) × (next ≡ place) × (after ≡ before)

-- a statement came to this, from one memory to another
abbrev pub PerformsGuarded : Statement → ℕ → List ℕ → List ℕ → Result ℕ Halt → Type 0
PerformsGuarded statement input before after (Ok over) =
    ((value statement.guard before ≡ 0) × (after ≡ before)) ⊎ ((value statement.guard before ≢ 0) × (did statement.instr input before ≡ moved over after))
PerformsGuarded statement input before after (Err halts.Blocked) =
    (value statement.guard before ≢ 0) × (did statement.instr input before ≡ blocked)
PerformsGuarded statement input before after (Err (halts.Broke kind line)) =
    (value statement.guard before ≢ 0) × (did statement.instr input before ≡ broke kind line)

-- ---- which places a step runs

-- a check of this kind and line stands at this place of the code
pub record IsCheckAt (code : List MarkedInstruction) (place : ℕ) (kind : BreakKind) (line : ℕ) : Type 0 where
  pub test : Expression
  pub first : MarkedInstruction
  pub rest : List MarkedInstruction
  pub stands : drop place code ≡ first ∷ rest
  pub checks_ : first.instr ≡ checks test kind line

-- the last of these places is that of a check of this kind and line
pub record EndsAtCheck (code : List MarkedInstruction) (places : List ℕ) (kind : BreakKind) (line : ℕ) : Type 0 where
  pub front : List ℕ
  pub last : ℕ
  pub are : places ≡ front ++ last ∷ []
  pub check : IsCheckAt code last kind line

-- a step that goes runs as many places as instructions
abbrev pub RunsItsCount : Type 0
RunsItsCount =
    (input : ℕ → ℕ) (code : List MarkedInstruction) (place : ℕ) (memory : List ℕ) (next : ℕ) (after : List ℕ) → step input code place memory ≡ went next after
    → length (places_run input code place memory) ≡ step_count input code place memory

-- the last place of a step that breaks is that of a check of the kind and line at which it breaks
abbrev pub BreaksAtItsLast : Type 0
BreaksAtItsLast =
    (input : ℕ → ℕ) (code : List MarkedInstruction) (place : ℕ) (memory : List ℕ) (kind : BreakKind) (line : ℕ) → step input code place memory ≡ breaks kind line
    → EndsAtCheck code (places_run input code place memory) kind line
