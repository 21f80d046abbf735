-- Inner: the state of a replay, and one step of it.
use Rattle.std.specs.Prelude.{◌≡◌, ◌≢◌, ℕ, ◌<◌, ◌≤◌, ◌+◌, ◌==◌, List, length, Option, Some, None, if◌then◌else◌}
use Rattle.std.specs.List.{All}
use Rattle.lz_base.specs.declared.word.BreakKind.{BreakKind}
use Rattle.lz_tree.specs.ScopedTrees.{ScopedProgram}
use Rattle.lz_model.specs.declared.schedule.Step.{Step}
use Rattle.lz_model.specs.Store.{State, went, blocked, broke, act}
use Rattle.lz_model.specs.CodeTraces.{at}
use Rattle.lz_model.specs.Programs.{process_of}
use Rattle.lz_model.specs.WithoutLoc.{bare}
use Rattle.lz_store.specs.Answers.{IsWithin}
use Rattle.lz_machine.specs.Threads.{MayDo}
use Rattle.lz_replay.specs.declared.answer.Replayed.{Replayed}
use Rattle.lz_replay.specs.declared.answer.Replayed.TheVariants as replayed
use Rattle.lz_replay.specs.declared.threads.Held.{Held}
use Rattle.lz_replay.specs.declared.threads.Taken.{Taken}
use Rattle.lz_replay.specs.declared.replaying.Stepped.{Stepped}
use Rattle.lz_replay.specs.declared.replaying.Stepped.TheVariants.{Went, Blocked, Broke}
use Rattle.lz_replay.specs.Stands.{NoRun, Stands, Breaks}
use Rattle.lz_replay.specs.Taking.{room, Takes, TakesNone, IsWord, thread_of, thread_at, IsHeldOf, HasMade}

-- the threads are of the program
pub record AreOf (p : ScopedProgram) (held : List Held) : Type 0 where
  pub each : All (IsHeldOf p) held

-- A replay came through these steps to this state and these threads.
pub record IsReplay (p : ScopedProgram) (n : ℕ) (steps : List Step) (state : State) (held : List Held) : Type 0 where
  pub stands : Stands (bare (process_of p n)) steps state (λ thread. MayDo p n (thread_at held thread))
  pub count : length held ≡ length state.threads
  pub few : length held ≤ room
  pub own : AreOf p held

-- ---- one step

-- what one thread takes by a choice, and how it is kept behind that
abbrev pub HasAdvanced : ScopedProgram → ℕ → State → ℕ → Held → Option Taken → Held → Type 0
HasAdvanced p n state choice before None after = TakesNone p n state choice (thread_of before)
HasAdvanced p n state choice before (Some taken) after =
    Takes p n state choice (thread_of before) (at taken.line taken.action) (thread_of after) × IsWord taken × IsHeldOf p after

-- What the thread of a step takes, and the threads behind that.
pub record TakesAt (p : ScopedProgram) (n : ℕ) (state : State) (step : Step) (before : List Held) (taken : Taken) (after : List Held) : Type 0 where
  pub made : step.thread < length before
  pub takes : Takes p n state step.choice (thread_at before step.thread) (at taken.line taken.action) (thread_at after step.thread)
  pub word : IsWord taken
  pub count : length after ≡ length before
  pub others : (other : ℕ) → other ≢ step.thread → thread_at after other ≡ thread_at before other
  pub own : AreOf p after

abbrev pub HasTaken : ScopedProgram → ℕ → State → Step → List Held → Option Taken → List Held → Type 0
HasTaken p n state step before None after = step.thread < length before → TakesNone p n state step.choice (thread_at before step.thread)
HasTaken p n state step before (Some taken) after = TakesAt p n state step before taken after

-- what the taken action comes to
abbrev pub HasActed : ScopedProgram → ℕ → Taken → State → List Held → Stepped → State → List Held → Type 0
HasActed p thread taken state held Went after more = (act state thread taken.action ≡ went after) × IsWithin taken.action × HasMade p taken.action held more
HasActed p thread taken state held Blocked after more = act state thread taken.action ≡ blocked
HasActed p thread taken state held (Broke kind line) after more = (act state thread taken.action ≡ broke kind) × (line ≡ taken.line)

-- what a step comes to, of a replay that came through these steps with it
abbrev pub HasStepped : ScopedProgram → ℕ → List Step → Stepped → State → List Held → Type 0
HasStepped p n steps Went after more = IsReplay p n steps after more
HasStepped p n steps Blocked after more = NoRun (bare (process_of p n)) steps
HasStepped p n steps (Broke kind line) after more = Breaks (bare (process_of p n)) steps kind line

-- the answer where the step of this index breaks a check, of so many
abbrev pub broken : BreakKind → ℕ → ℕ → ℕ → Replayed
broken kind line index len = if index + 1 == len then replayed.Broke kind line (index + 1) else replayed.NotARun (index + 1)
