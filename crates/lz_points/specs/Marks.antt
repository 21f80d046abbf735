-- Trusted: what a flat program keeps where marks are taken from it.
use Rattle.std.specs.Prelude.{◌≡◌, ◌↔◌, ℕ, true, List, [], ◌∷◌, ◌++◌, length, map, slice_index, slice_set, ⊤}
use Rattle.lz_base.specs.declared.word.BreakKind.{BreakKind}
use Rattle.lz_flat.specs.Programs.{MarkedInstruction, FlatProgram, code_of}
use Rattle.lz_flat.specs.FlatRuns.{Ran, went, held, breaks, ended, step, opening, FlatBroken, IsBrokenRun}
use Rattle.lz_flat.specs.Places.{places_run}
use Rattle.lz_flat.specs.WellFormed.{IsWellMarked}

-- the same instructions, and what is visible was so before
abbrev pub OnlyMarks : List MarkedInstruction → List MarkedInstruction → Type 0
OnlyMarks [] [] = ⊤
OnlyMarks [] (y ∷ ys) = ⊥
OnlyMarks (x ∷ xs) [] = ⊥
OnlyMarks (x ∷ xs) (y ∷ ys) = (y.instr ≡ x.instr) × (y.visible ≡ true → x.visible ≡ true) × OnlyMarks xs ys

-- The program is another one from which marks alone were taken, and none from an assumption or from the first
-- instruction of a thread.
pub record IsThinnedFrom (flat thinner : FlatProgram) : Type 0 where
  pub first : thinner.first ≡ flat.first
  pub threads : length thinner.threads ≡ length flat.threads
  pub codes : (t : ℕ) → OnlyMarks (code_of flat t) (code_of thinner t)
  pub well : IsWellMarked thinner

-- the programs have broken runs of the same numbers of rounds
abbrev pub BreakAlike : FlatProgram → FlatProgram → Type 0
BreakAlike flat thinner = (rounds : ℕ) → FlatBroken flat rounds ↔ FlatBroken thinner rounds

-- ---- which instructions a run runs

-- these places of a thread, each with the thread
abbrev pub run_by : ℕ → List ℕ → List (ℕ × ℕ)
run_by thread places = map (λ place. (thread, place)) places

-- what a run runs after a step
abbrev pub instructions_behind : Ran → (ℕ → List ℕ → List (ℕ × ℕ)) → List (ℕ × ℕ)
instructions_behind (went place memory) next = next place memory
instructions_behind held next = []
instructions_behind (breaks kind line) next = []
instructions_behind ended next = []

-- the instructions that steps of these threads run, in order, each as its thread and its place, with the check at
-- which they break
unfoldable pub instructions_run : FlatProgram → (ℕ → ℕ → ℕ) → List ℕ → List ℕ → List ℕ → List (ℕ × ℕ)
instructions_run flat inputs [] places memory = []
instructions_run flat inputs (thread ∷ rest) places memory =
    run_by thread (places_run (inputs thread) (code_of flat thread) (slice_index places thread) memory)
    ++ instructions_behind (step (inputs thread) (code_of flat thread) (slice_index places thread) memory) (λ place. instructions_run flat inputs rest (slice_set places thread place))

-- A broken run after is one before: of no more rounds, with the same break, the same inputs, and the same instructions
-- in the same order.
abbrev pub BreaksBefore : FlatProgram → FlatProgram → Type 0
BreaksBefore flat thinner =
    (rounds : ℕ) (run : List ℕ) (inputs : ℕ → ℕ → ℕ) (kind : BreakKind) (line : ℕ) → IsBrokenRun thinner rounds run inputs kind line
    → (old : List ℕ) × IsBrokenRun flat rounds old inputs kind line × (instructions_run flat inputs old (opening flat) flat.first ≡ instructions_run thinner inputs run (opening thinner) thinner.first)
