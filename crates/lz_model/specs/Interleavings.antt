-- Trusted: runs, the interleavings of what threads may do, in which each event goes but the last, which may break a check.
-- A switch may come after any action.
use Rattle.std.specs.Prelude.{◌≡◌, ◌≢◌, ℕ, zero, suc, ◌==◌, List, [], ◌∷◌, Option, Some, None, if◌then◌else◌}
use Rattle.lz_base.specs.declared.word.BreakKind.{BreakKind}
use Rattle.lz_model.specs.declared.actions.Event.{Event}
use Rattle.lz_model.specs.Actions.{Act, act_of, Start, started_by}
use Rattle.lz_model.specs.Store.{State, Acted, went, blocked, broke, act}

-- ---- what runs are runs of

-- A process: the state in which it begins, what its thread 0 may do, and what a thread may do that is started
-- with this routine and this argument. What a thread may do are lists of actions; a thread may stop at any time.
pub record Process : Type 1 where
  pub begins : State
  pub main : List Act → Type 0
  pub started : (routine argument : ℕ) → List Act → Type 0

-- ---- where events lead

-- To a state; nowhere, since an event is blocked or comes after a break; or to a check that the last event
-- breaks, with the kind and the line of the break.
pub data Course : Type 0 where
  going : (state : State) → Course
  stuck : Course
  broken : (kind : BreakKind) (line : ℕ) → Course

-- behind one event, of this line, and the rest after it, which may be none
abbrev pub course_after : Acted → ℕ → List Event → (State → Course) → Course
course_after (went state) line rest next = next state
course_after blocked line rest next = stuck
course_after (broke kind) line [] next = broken kind line
course_after (broke kind) line (event ∷ rest) next = stuck

abbrev pub course : List Event → State → Course
course [] state = going state
course (event ∷ rest) state = course_after (act state event.thread event.action) event.line rest (course rest)

-- ---- each thread's part

-- what one thread does in a run
abbrev pub part : ℕ → List Event → List Act
part thread [] = []
part thread (event ∷ rest) = if event.thread == thread then act_of event ∷ part thread rest else part thread rest

-- the start, where it is this thread's, and else that which the rest of a run has
abbrev pub start_or : ℕ → Option Start → Option Start → Option Start
start_or thread None later = later
start_or thread (Some start) later = if start.thread == thread then Some start else later

-- what starts a thread in a run: its first creation
abbrev pub start_of : ℕ → List Event → Option Start
start_of thread [] = None
start_of thread (event ∷ rest) = start_or thread (started_by event.action) (start_of thread rest)

-- what a thread may do that is started so; one that is not started does nothing
abbrev pub MayDo : Process → Option Start → List Act → Type 0
MayDo process None acts = acts ≡ []
MayDo process (Some start) acts = process.started start.routine start.argument acts

-- what a thread may do in a run
abbrev pub MayDoIn : Process → List Event → ℕ → List Act → Type 0
MayDoIn process run zero acts = process.main acts
MayDoIn process run (suc thread) acts = MayDo process (start_of (suc thread) run) acts

-- ---- runs

-- The events are a run of the process: each thread does what it may do, and each event goes, but that the last
-- may break a check.
pub record IsRun (process : Process) (run : List Event) : Type 0 where
  pub parts : (thread : ℕ) → MayDoIn process run thread (part thread run)
  pub goes : course run process.begins ≢ stuck
