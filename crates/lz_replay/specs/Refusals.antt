-- Inner: what a refusal of a schedule text says.
use Rattle.std.specs.Prelude.{ℕ, List, ⊤}
use Rattle.lz_model.specs.ScheduleText.{IsNoSchedule}
use Rattle.lz_replay.specs.declared.error.ScheduleError.{ScheduleError}
use Rattle.lz_replay.specs.declared.error.ScheduleError.TheVariants as errors

-- the first line without a reading is told; of want of memory nothing is said
abbrev pub IsRefusal : List ℕ → ScheduleError → Type 0
IsRefusal text (errors.Bad line) = IsNoSchedule text line
IsRefusal text errors.Memory = ⊤
