use Rattle.std.proofs.Common.{◌≡◌, []}
use Rattle.lz_base.proofs.ListLemmas.{NoneBefore}
use Rattle.lz_log.proofs.checking.has_empty.Given as goal

abbrev pub invariant-loop-step : goal.invariant-loop-step
invariant-loop-step l = NoneBefore (λ step. step.clause ≡ []) l.steps l.step-index
