-- Trusted: steps and runs of a flat program, its broken runs, and how a list of inputs drives it.
use Rattle.std.specs.Prelude.{◌≡◌, ℕ, zero, suc, ◌+◌, ◌*◌, ◌<◌, ◌≤◌, nat_lt, List, [], ◌∷◌, ◌++◌, length, drop, replicate, slice_index, slice_set, if◌then◌else◌}
use Rattle.lz_base.specs.Words.{value_bound}
use Rattle.lz_base.specs.Descents.{descents}
use Rattle.lz_base.specs.declared.word.BreakKind.{BreakKind}
use Rattle.lz_flat.specs.Programs.{MarkedInstruction, FlatProgram, code_of}
use Rattle.lz_flat.specs.Instructions.{Did, moved, blocked, broke, did}

-- Where instructions of a thread lead: to a place with a memory; nowhere, since an assumption fails; to a
-- check that breaks; or nowhere, since the thread has ended.
pub data Ran : Type 0 where
  went : (place : ℕ) (memory : List ℕ) → Ran
  held : Ran
  breaks : (kind : BreakKind) (line : ℕ) → Ran
  ended : Ran

-- what follows an instruction
abbrev pub behind : Did → (ℕ → List ℕ → Ran) → Ran
behind (moved over memory) next = next over memory
behind blocked next = held
behind (broke kind line) next = breaks kind line

-- On from place l, whose code this is, after so many instructions are passed over, up to the next visible
-- instruction or the end. The input of the instruction at place l is the l-th of the thread's.
unfoldable pub onward : (ℕ → ℕ) → ℕ → List MarkedInstruction → ℕ → List ℕ → Ran
onward input l [] over memory = went (l + over) memory
onward input l (first ∷ rest) (suc over) memory = onward input (suc l) rest over memory
onward input l (first ∷ rest) zero memory =
    if first.visible then went l memory else behind (did first.instr (input l) memory) (onward input (suc l) rest)

-- a step whose instruction stands first in this code, at this place
abbrev pub step_from : (ℕ → ℕ) → ℕ → List MarkedInstruction → List ℕ → Ran
step_from input place [] memory = ended
step_from input place (first ∷ rest) memory = behind (did first.instr (input place) memory) (onward input (suc place) rest)

-- A step of a thread with this code: the instruction at its place, with those that follow up to the next
-- visible one or the end.
unfoldable pub step : (ℕ → ℕ) → List MarkedInstruction → ℕ → List ℕ → Ran
step input code place memory = step_from input place (drop place code) memory

-- ---- runs

-- where a list of steps leads: on, to a place for each thread and a memory; nowhere; or to a break
pub data Course : Type 0 where
  going : (places : List ℕ) (memory : List ℕ) → Course
  stuck : Course
  broken : (kind : BreakKind) (line : ℕ) → Course

-- the course behind a step: what breaks is the last step
abbrev pub course_behind : Ran → List ℕ → (ℕ → List ℕ → Course) → Course
course_behind (went place memory) rest next = next place memory
course_behind held rest next = stuck
course_behind (breaks kind line) [] next = broken kind line
course_behind (breaks kind line) (thread ∷ rest) next = stuck
course_behind ended rest next = stuck

-- The course of steps of these threads, where each thread has its own inputs, by place: each step goes, but
-- that the last may break.
unfoldable pub course : FlatProgram → (ℕ → ℕ → ℕ) → List ℕ → List ℕ → List ℕ → Course
course flat inputs [] places memory = going places memory
course flat inputs (thread ∷ rest) places memory =
    course_behind (step (inputs thread) (code_of flat thread) (slice_index places thread) memory) rest
    (λ place. course flat inputs rest (slice_set places thread place))

-- a run begins with each thread at its first instruction
abbrev pub opening : FlatProgram → List ℕ
opening flat = replicate (length flat.threads) 0

-- the steps, with these inputs, are a run of at most so many rounds that ends in this break
pub record IsBrokenRun (flat : FlatProgram) (rounds : ℕ) (run : List ℕ) (inputs : ℕ → ℕ → ℕ) (kind : BreakKind) (line : ℕ) : Type 0 where
  pub words : (thread place : ℕ) → inputs thread place < value_bound
  pub few : descents run + 1 ≤ rounds
  pub breaks : course flat inputs run (opening flat) flat.first ≡ broken kind line

-- some run of at most so many rounds breaks
abbrev pub FlatBroken : FlatProgram → ℕ → Type 0
FlatBroken flat rounds =
    (run : List ℕ) × (inputs : ℕ → ℕ → ℕ) × (kind : BreakKind) × (line : ℕ) × IsBrokenRun flat rounds run inputs kind line

-- ---- the drive: how a list of inputs is read as a run, block by block

-- behind a step more steps, but behind the end of the thread none
abbrev pub steps_on : ℕ → List ℕ → Ran → (ℕ → List ℕ → Ran) → Ran
steps_on place memory (went next_place next_memory) next = next next_place next_memory
steps_on place memory held next = held
steps_on place memory (breaks kind line) next = breaks kind line
steps_on place memory ended next = went place memory

-- Steps while the place is below the guess and the thread has not ended, at most so many of them: a thread
-- has no more steps than instructions.
unfoldable pub below : ℕ → ℕ → (ℕ → ℕ) → List MarkedInstruction → ℕ → List ℕ → Ran
below zero guess input code place memory = went place memory
below (suc most) guess input code place memory =
    if nat_lt place guess then steps_on place memory (step input code place memory) (below most guess input code)
    else went place memory

-- the course behind a block
abbrev pub block_behind : Ran → (ℕ → List ℕ → Course) → Course
block_behind (went place memory) next = next place memory
block_behind held next = stuck
block_behind (breaks kind line) next = broken kind line
block_behind ended next = stuck

-- the input of the instruction at place l in a block whose inputs begin at o
abbrev pub source : (ℕ → ℕ) → ℕ → ℕ → ℕ
source input o l = input (o + (12 + 3 * l))

-- how many inputs a block of this code has
abbrev pub block_length : List MarkedInstruction → ℕ
block_length code = 3 * (length code + 4)

-- The course that inputs drive, through blocks of these threads, the first of which begins at o. The first
-- input of a block is its guess: the thread takes steps while its place is below it.
unfoldable pub driven : FlatProgram → (ℕ → ℕ) → ℕ → List ℕ → List ℕ → List ℕ → Course
driven flat input o [] places memory = going places memory
driven flat input o (thread ∷ rest) places memory =
    block_behind (below (length (code_of flat thread)) (input o) (source input o) (code_of flat thread) (slice_index places thread) memory)
    (λ place. driven flat input (o + block_length (code_of flat thread)) rest (slice_set places thread place))

-- so many threads from this one on
abbrev pub threads_from : ℕ → ℕ → List ℕ
threads_from thread zero = []
threads_from thread (suc more) = thread ∷ threads_from (suc thread) more

-- the threads of the blocks of so many rounds: each round has a block of each thread, in order
abbrev pub blocks : ℕ → ℕ → List ℕ
blocks zero threads = []
blocks (suc rounds) threads = threads_from 0 threads ++ blocks rounds threads

-- the inputs drive a run of so many rounds that ends in a break
abbrev pub DrivesBreak : FlatProgram → ℕ → (ℕ → ℕ) → Type 0
DrivesBreak flat rounds input =
    (kind : BreakKind) × (line : ℕ) × (driven flat input 0 (blocks rounds (length flat.threads)) (opening flat) flat.first ≡ broken kind line)
