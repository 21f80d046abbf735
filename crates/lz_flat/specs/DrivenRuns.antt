-- Inner: the run that inputs drive: the thread of each of its steps, and the inputs of each thread by place.
use Rattle.std.specs.Prelude.{◌≡◌, ℕ, zero, suc, ◌+◌, ◌<◌, ◌==◌, nat_lt, List, [], ◌∷◌, ◌++◌, length, slice_index, slice_set, if◌then◌else◌}
use Rattle.lz_base.specs.Words.{value_bound}
use Rattle.lz_base.specs.declared.word.BreakKind.{BreakKind}
use Rattle.lz_flat.specs.Programs.{MarkedInstruction, FlatProgram, code_of}
use Rattle.lz_flat.specs.FlatRuns.{Ran, went, held, breaks, ended, step, below, source, block_length, blocks, opening, IsBrokenRun, driven, broken}

-- a step of the thread, where there is one, and what follows where it goes
abbrev pub step_then : ℕ → Ran → (ℕ → List ℕ → List ℕ) → List ℕ
step_then thread (went place memory) next = thread ∷ next place memory
step_then thread held next = []
step_then thread (breaks kind line) next = thread ∷ []
step_then thread ended next = []

-- the steps of a block, at most so many, while the place is below the guess
unfoldable pub block_steps : ℕ → ℕ → ℕ → (ℕ → ℕ) → List MarkedInstruction → ℕ → List ℕ → List ℕ
block_steps thread zero guess input code place memory = []
block_steps thread (suc most) guess input code place memory =
    if nat_lt place guess then step_then thread (step input code place memory) (block_steps thread most guess input code) else []

-- the steps behind a block that goes
abbrev pub steps_behind : Ran → (ℕ → List ℕ → List ℕ) → List ℕ
steps_behind (went place memory) next = next place memory
steps_behind held next = []
steps_behind (breaks kind line) next = []
steps_behind ended next = []

-- The threads of the steps that inputs drive, through blocks of these threads, the first of which begins at o.
unfoldable pub driven_run : FlatProgram → (ℕ → ℕ) → ℕ → List ℕ → List ℕ → List ℕ → List ℕ
driven_run flat input o [] places memory = []
driven_run flat input o (thread ∷ rest) places memory =
    block_steps thread (length (code_of flat thread)) (input o) (source input o) (code_of flat thread) (slice_index places thread) memory
    ++ steps_behind (below (length (code_of flat thread)) (input o) (source input o) (code_of flat thread) (slice_index places thread) memory)
    (λ place. driven_run flat input (o + block_length (code_of flat thread)) rest (slice_set places thread place))

-- the inputs of a thread up to the place where its block ends, and those of its later blocks from there on
abbrev pub spliced : ℕ → ℕ → (ℕ → ℕ) → (ℕ → ℕ → ℕ) → ℕ → ℕ → ℕ
spliced thread end now later u k = if u == thread then (if nat_lt k end then now k else later u k) else later u k

-- the inputs with those of a block that ends so
abbrev pub inputs_behind : ℕ → (ℕ → ℕ) → Ran → (ℕ → List ℕ → ℕ → ℕ → ℕ) → ℕ → ℕ → ℕ
inputs_behind thread now (went place memory) next = spliced thread place now (next place memory)
inputs_behind thread now held next = λ u. now
inputs_behind thread now (breaks kind line) next = λ u. now
inputs_behind thread now ended next = λ u. now

-- The inputs of each thread, by place, in the run that inputs drive through these blocks: an instruction has the
-- input of the block in which its thread passed it.
unfoldable pub driven_inputs : FlatProgram → (ℕ → ℕ) → ℕ → List ℕ → List ℕ → List ℕ → ℕ → ℕ → ℕ
driven_inputs flat input o [] places memory = λ u k. 0
driven_inputs flat input o (thread ∷ rest) places memory =
    inputs_behind thread (source input o)
    (below (length (code_of flat thread)) (input o) (source input o) (code_of flat thread) (slice_index places thread) memory)
    (λ place. driven_inputs flat input (o + block_length (code_of flat thread)) rest (slice_set places thread place))

-- the run that inputs drive in so many rounds
abbrev pub run_of : FlatProgram → ℕ → (ℕ → ℕ) → List ℕ
run_of flat rounds input = driven_run flat input 0 (blocks rounds (length flat.threads)) (opening flat) flat.first

-- its inputs
abbrev pub inputs_of_run : FlatProgram → ℕ → (ℕ → ℕ) → ℕ → ℕ → ℕ
inputs_of_run flat rounds input = driven_inputs flat input 0 (blocks rounds (length flat.threads)) (opening flat) flat.first

-- where inputs that are words drive a break, the run that they drive ends in this break, in no more rounds
abbrev pub DrivesItsRun : Type 0
DrivesItsRun =
    (flat : FlatProgram) (rounds : ℕ) (input : ℕ → ℕ) (kind : BreakKind) (line : ℕ) → ((i : ℕ) → input i < value_bound)
    → driven flat input 0 (blocks rounds (length flat.threads)) (opening flat) flat.first ≡ broken kind line
    → IsBrokenRun flat rounds (run_of flat rounds input) (inputs_of_run flat rounds input) kind line
