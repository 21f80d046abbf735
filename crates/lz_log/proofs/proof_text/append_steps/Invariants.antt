use Rattle.std.proofs.Common.{◌≡◌, ◌++◌, drop}
use Rattle.std.specs.List.{flat_map}
use Rattle.lz_log.specs.ProofText.{step_line}
use Rattle.lz_log.proofs.proof_text.append_steps.Given as goal

abbrev pub invariant-loop-step : goal.invariant-loop-step
invariant-loop-step l = l.text ++ flat_map step_line (drop l.step-index l.steps) ≡ l.initial.text ++ flat_map step_line l.steps
