-- Trusted: what the answer of a replay says of a program's runs.
use Rattle.std.specs.Prelude.{◌≡◌, ◌≢◌, ℕ, ◌+◌, List, length, take}
use Rattle.lz_base.specs.declared.word.BreakKind.{BreakKind}
use Rattle.lz_tree.specs.ScopedTrees.{ScopedProgram}
use Rattle.lz_model.specs.declared.actions.Event.{Event}
use Rattle.lz_model.specs.declared.schedule.Step.{Step}
use Rattle.lz_model.specs.Interleavings.{broken, course, IsRun}
use Rattle.lz_model.specs.BrokenRuns.{IsBrokenRun, Follows}
use Rattle.lz_model.specs.Programs.{process_of}
use Rattle.lz_replay.specs.declared.answer.Replayed.{Replayed}
use Rattle.lz_replay.specs.declared.answer.Replayed.TheVariants.{Broke, Holds, NotARun}

-- Some run of the program, with at most n turns of each entered loop, follows these steps, whether it is broken or not.
pub record IsFollowed (p : ScopedProgram) (n : ℕ) (steps : List Step) : Type 0 where
  pub run : List Event
  pub is : IsRun (process_of p n) run
  pub follows : Follows run steps

-- Some run that is not broken follows these steps.
pub record IsHeld (p : ScopedProgram) (n : ℕ) (steps : List Step) : Type 0 where
  pub run : List Event
  pub is : IsRun (process_of p n) run
  pub holds : (kind : BreakKind) (line : ℕ) → course run (process_of p n).begins ≢ broken kind line
  pub follows : Follows run steps

-- Some broken run follows these steps, and what it breaks is a check of this kind on this line.
pub record IsBrokenAt (p : ScopedProgram) (n : ℕ) (steps : List Step) (kind : BreakKind) (line : ℕ) : Type 0 where
  pub run : List Event
  pub broken_ : IsBrokenRun (process_of p n) run kind line
  pub follows : Follows run steps

-- What an answer says of a schedule: a broken run follows the whole of it; a run that is not broken does; or some run
-- follows its steps before this index, and none follows those up to and with it.
abbrev pub Says : ScopedProgram → ℕ → List Step → Replayed → Type 0
Says p n schedule (Broke kind line events) = IsBrokenAt p n schedule kind line × (events ≡ length schedule)
Says p n schedule (Holds events) = IsHeld p n schedule × (events ≡ length schedule)
Says p n schedule (NotARun index) = IsFollowed p n (take index schedule) × (IsFollowed p n (take (index + 1) schedule) → ⊥)
