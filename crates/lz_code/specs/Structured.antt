-- Inner: structured code, and what it does: own instructions of a thread, which belong to no action, and deeds, which are
-- actions. It knows places and skips as little as a tree does.
use Rattle.std.specs.Prelude.{◌≡◌, ℕ, ◌<◌, ◌==◌, ◌⊎◌, Bool, not, List, [], ◌∷◌}
use Rattle.lz_base.specs.Words.{value_bound}
use Rattle.lz_flat.specs.Programs.{Expression, Location, Instruction, sets, takes, assumes}
use Rattle.lz_flat.specs.Instructions.{value, moved, did}
use Rattle.lz_model.specs.Actions.{Act}
use Rattle.lz_model.specs.Behaviours.{Outcome, done, exits, cut, Behaviour, ends_with, leaves, ◌and_then◌, ◌gives◌, picks}
use Rattle.lz_bound.specs.BoundedTraces.{Leaving, through, left, passes, caught}

-- The deeds of a thread: how many instructions the group of one has after the first; the action that it may be on the
-- thread's own words, where a read finds any value, and what it leaves there, or the action after which nothing comes; and
-- the deed that ends the thread.
pub record Deeds (D : Type 0) : Type 1 where
  pub tail : D → ℕ
  pub says : D → List ℕ → Act → List ℕ → Type 0
  pub stops : D → List ℕ → Act → Type 0
  pub ending : Bool → D

-- an own instruction that is no skip
pub data Own : Type 0 where
  puts : (to : Location) (of : Expression) → Own
  asks : (to : Location) → Own
  guards : (test : Expression) → Own

-- the instruction
abbrev pub instr_of : Own → Instruction
instr_of (puts to of) = sets to of
instr_of (asks to) = takes to
instr_of (guards test) = assumes test

-- Structured code: an own instruction, and whether a step may end before it; a deed; one after the other; one of two by
-- a test; a frame, and a way out of the frame of a number; and the end of the thread, or of the whole process.
pub data Code (D : Type 0) : Type 0 where
  nothing : Code D
  own : (visible : Bool) (o : Own) → Code D
  deed : (d : D) → Code D
  seq : (first second : Code D) → Code D
  branch : (test : Expression) (yes other : Code D) → Code D
  frame : (number : ℕ) (body : Code D) → Code D
  leave : (number : ℕ) → Code D
  exit : (whole : Bool) → Code D

-- ---- what it does, on the thread's own words

-- an own instruction does no action, with any input
abbrev pub OwnDoes : Own → Behaviour (List ℕ) Leaving
OwnDoes o before acts (done after way) = (acts ≡ []) × (way ≡ through) × ((v : ℕ) × (v < value_bound) × (did (instr_of o) v before ≡ moved 0 after))
OwnDoes o before acts (exits w) = ⊥
OwnDoes o before acts cut = acts ≡ []

-- so as a record
pub record own_does (o : Own) (before : List ℕ) (acts : List Act) (outcome : Outcome (List ℕ) Leaving) : Type 0 where
  pub is : OwnDoes o before acts outcome

-- a deed does its action
abbrev pub DeedDoes : {D : Type 0} → Deeds D → D → Behaviour (List ℕ) Leaving
DeedDoes deeds d before acts (done after way) = (way ≡ through) × ((a : Act) × (acts ≡ a ∷ []) × deeds.says d before a after)
DeedDoes deeds d before acts (exits w) = ⊥
DeedDoes deeds d before acts cut = (acts ≡ []) ⊎ (((a : Act) × (after : List ℕ) × (acts ≡ a ∷ []) × deeds.says d before a after) ⊎ ((a : Act) × (acts ≡ a ∷ []) × deeds.stops d before a))

-- so as a record
pub record deed_does {D : Type 0} (deeds : Deeds D) (d : D) (before : List ℕ) (acts : List Act) (outcome : Outcome (List ℕ) Leaving) : Type 0 where
  pub is : DeedDoes deeds d before acts outcome

-- the test is not 0
abbrev pub holds : Expression → List ℕ → Bool
holds test memory = not (value test memory == 0)

-- what code does
abbrev pub code_trace : {D : Type 0} → Deeds D → Code D → Behaviour (List ℕ) Leaving
code_trace deeds nothing before acts outcome = ends_with through before acts outcome
code_trace deeds (own shown o) before acts outcome = own_does o before acts outcome
code_trace deeds (deed d) before acts outcome = deed_does deeds d before acts outcome
code_trace deeds (seq a b) before acts outcome = (code_trace deeds a and_then λ way. passes way (code_trace deeds b)) before acts outcome
code_trace deeds (branch test a b) before acts outcome = picks (holds test before) (code_trace deeds a) (code_trace deeds b) before acts outcome
code_trace deeds (frame number body) before acts outcome = (code_trace deeds body gives caught number) before acts outcome
code_trace deeds (leave number) before acts outcome = ends_with (left number) before acts outcome
code_trace deeds (exit whole) before acts outcome = leaves whole before acts outcome
