-- Inner: what one line adds to a schedule.
use Rattle.std.specs.Prelude.{◌≡◌, ℕ, List, ◌++◌, ⊤}
use Rattle.lz_model.specs.declared.schedule.Step.{Step}
use Rattle.lz_model.specs.ScheduleText.{Reads}
use Rattle.lz_replay.specs.declared.error.ScheduleError.{ScheduleError}
use Rattle.lz_replay.specs.declared.error.ScheduleError.TheVariants as errors

-- the line has a reading, whose steps are added
pub record Adds (line : List ℕ) (before after : List Step) : Type 0 where
  pub steps : List Step
  pub reads : Reads line steps
  pub is : after ≡ before ++ steps

-- the line of this number has no reading
abbrev pub IsLineRefusal : List ℕ → ℕ → ScheduleError → Type 0
IsLineRefusal line number (errors.Bad told) = (told ≡ number) × ((some : List Step) → Reads line some → ⊥)
IsLineRefusal line number errors.Memory = ⊤
