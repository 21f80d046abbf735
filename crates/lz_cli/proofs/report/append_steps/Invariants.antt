use Rattle.std.proofs.Common.{◌≡◌, ◌++◌, take}
use Rattle.std.specs.List.{flat_map}
use Rattle.lz_cli.specs.Report.{step_line}
use Rattle.lz_cli.proofs.report.append_steps.Given as goal

-- the lines of the steps so far
abbrev pub invariant-loop-step : goal.invariant-loop-step
invariant-loop-step l = l.text ≡ l.initial.text ++ flat_map step_line (take l.step-index l.step-items)
