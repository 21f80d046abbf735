-- Inner: how far a replay came, and what one step of it comes to.
use Rattle.std.specs.Prelude.{◌≡◌, ◌≢◌, ℕ, ◌<◌, false, List, [], ◌∷◌, ◌++◌, length, Some, ⊤}
use Rattle.lz_base.specs.declared.word.BreakKind.{BreakKind}
use Rattle.lz_model.specs.declared.actions.Event.{Event}
use Rattle.lz_model.specs.declared.schedule.Step.{Step}
use Rattle.lz_model.specs.Actions.{Act, is_loc, choice_of, Start, started_by}
use Rattle.lz_model.specs.Store.{State, blocked, act}
use Rattle.lz_model.specs.Interleavings.{Process, going, broken, course, part, MayDoIn, IsRun}
use Rattle.lz_model.specs.BrokenRuns.{schedule_of}

-- no event is Loc
abbrev pub NoLoc : List Event → Type 0
NoLoc [] = ⊤
NoLoc (event ∷ rest) = (is_loc event.action ≡ false) × NoLoc rest

-- two threads may do the same
pub record Same (one other : List Act → Type 0) : Type 0 where
  pub there : (acts : List Act) → one acts → other acts
  pub back : (acts : List Act) → other acts → one acts

-- what a thread may do behind these events
abbrev pub MayFollow : Process → List Event → ℕ → List Act → Type 0
MayFollow process events thread acts = MayDoIn process events thread (part thread events ++ acts)

-- These events are the only run of the process with these steps, Loc left out.
pub record IsOnly (process : Process) (steps : List Step) (events : List Event) : Type 0 where
  pub is : IsRun process events
  pub seen : NoLoc events
  pub follows : schedule_of events ≡ steps
  pub only : (run : List Event) → NoLoc run → IsRun process run → schedule_of run ≡ steps → run ≡ events

-- no run of the process has these steps
pub record NoRun (process : Process) (steps : List Step) : Type 0 where
  pub none : (run : List Event) → NoLoc run → IsRun process run → schedule_of run ≡ steps → ⊥

-- A replay came through these steps: one run has them and leads to this state, and each thread that is made may do the
-- told from there.
pub record Stands (process : Process) (steps : List Step) (state : State) (may : ℕ → List Act → Type 0) : Type 0 where
  pub events : List Event
  pub only : IsOnly process steps events
  pub leads : course events process.begins ≡ going state
  pub rests : (thread : ℕ) → thread < length state.threads → Same (MayFollow process events thread) (may thread)

-- One run has these steps, it breaks a check, and no run has one step more.
pub record Breaks (process : Process) (steps : List Step) (kind : BreakKind) (line : ℕ) : Type 0 where
  pub events : List Event
  pub only : IsOnly process steps events
  pub breaks : course events process.begins ≡ broken kind line
  pub ends : (step : Step) → NoRun process (steps ++ step ∷ [])

-- Of what the thread of this step may do next, with the step's choice, all that is not blocked in this state is this.
pub record IsNext (state : State) (step : Step) (may : List Act → Type 0) (next : Act) : Type 0 where
  pub made : step.thread < length state.threads
  pub does : may (next ∷ [])
  pub chosen : choice_of next.action ≡ Some step.choice
  pub only : (other : Act) → may (other ∷ []) → choice_of other.action ≡ Some step.choice → act state step.thread other.action ≢ blocked → other ≡ next

-- behind an action of this thread each thread may do so
pub record Moves (process : Process) (state : State) (thread : ℕ) (next : Act) (before after : ℕ → List Act → Type 0) : Type 0 where
  pub here : Same (λ acts. before thread (next ∷ acts)) (after thread)
  pub others : (other : ℕ) → other < length state.threads → other ≢ thread → Same (before other) (after other)
  pub new : (start : Start) → started_by next.action ≡ Some start → start.thread ≡ length state.threads → Same (process.started start.routine start.argument) (after (length state.threads))
