use Rattle.std.proofs.Common.{◌≡◌, take}
use Rattle.lz_model.specs.ScheduleText.{printed}
use Rattle.lz_replay.proofs.print.print_schedule.Given as goal

-- the lines of the steps so far
abbrev pub invariant-loop-step : goal.invariant-loop-step
invariant-loop-step l = l.text ≡ printed (take l.step-index l.step-items)
