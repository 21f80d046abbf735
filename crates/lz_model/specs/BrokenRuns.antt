-- Trusted: runs that break a check, when a process is violated, and when a run follows a schedule.
use Rattle.std.specs.Prelude.{◌≡◌, ℕ, ◌≤◌, List, [], ◌∷◌, map, Option, Some, None}
use Rattle.std.specs.List.{flat_map}
use Rattle.lz_base.specs.declared.word.BreakKind.{BreakKind}
use Rattle.lz_model.specs.declared.actions.Event.{Event}
use Rattle.lz_model.specs.declared.schedule.Step.{Step}
use Rattle.lz_model.specs.Rounds.{rounds_of}
use Rattle.lz_model.specs.Actions.{choice_of}
use Rattle.lz_model.specs.Interleavings.{Process, broken, course, IsRun}

-- the run ends in a check that breaks, of this kind and on this line
pub record IsBrokenRun (process : Process) (run : List Event) (kind : BreakKind) (line : ℕ) : Type 0 where
  pub is : IsRun process run
  pub breaks : course run process.begins ≡ broken kind line

-- the rounds of a run, in which each of its events counts, Loc too
abbrev pub rounds_of_run : List Event → ℕ
rounds_of_run run = rounds_of (map (λ event. event.thread) run)

-- some broken run has at most k rounds
pub record IsViolated (process : Process) (k : ℕ) : Type 0 where
  pub run : List Event
  pub kind : BreakKind
  pub line : ℕ
  pub broken_ : IsBrokenRun process run kind line
  pub few : rounds_of_run run ≤ k

-- the step that stands for an event of this choice, or none
abbrev pub step_with : ℕ → Option ℕ → List Step
step_with thread None = []
step_with thread (Some choice) = record { thread = thread; choice = choice } ∷ []

abbrev pub steps_of : Event → List Step
steps_of event = step_with event.thread (choice_of event.action)

-- the schedule of a run: the threads and choices of its events in order, Loc left out
abbrev pub schedule_of : List Event → List Step
schedule_of run = flat_map steps_of run

-- the run follows the schedule
abbrev pub Follows : List Event → List Step → Type 0
Follows run schedule = schedule_of run ≡ schedule
