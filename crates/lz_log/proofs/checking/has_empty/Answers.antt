use Rattle.std.proofs.Common.{◌≡◌, [], ◌∙◌, ap}
use Rattle.lz_base.proofs.ListLemmas.{none_first, none_more, none_all}
use Rattle.lz_log.specs.declared.log.LogStep.{LogStep}
use Rattle.lz_log.proofs.CheckingLemmas.{no_truth, not_empty}
use Rattle.lz_log.proofs.checking.has_empty.Goals as goal

pub loop-step-init : goal.loop-step-init
loop-step-init c = none_first (λ (step : LogStep). step.clause ≡ []) c.args.steps.now

pub loop-step-preserved : goal.loop-step-preserved
loop-step-preserved c =
    none_more (λ (step : LogStep). step.clause ≡ []) c.args.steps.now c.loop-step.step-index c.step-item.result c.loop-step.invariant c.loop-step-test.true
    (λ empty. not_empty _ _ c.is_empty.ensures c.if-is_empty.false (c.items.ensures ∙ ap (λ (step : LogStep). step.clause) c.step-item.is ∙ empty))

pub returns : goal.returns
returns c = (
  no_truth,
  λ some. absurd (none_all (λ (step : LogStep). step.clause ≡ []) c.args.steps.now c.loop-step.step-index c.loop-step.invariant c.loop-step-test.false some),
)
