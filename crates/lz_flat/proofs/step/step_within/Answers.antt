use Rattle.std.proofs.Common.{◌∙◌, arith, slice_index}
use Rattle.std.proofs.lemmas.Result.{err_from_is_err_and}
use Rattle.lz_flat.proofs.StepLemmas.{instruction_at, first_within, step_halts, step_halts_behind, step_moves, step_counts}
use Rattle.lz_flat.proofs.step.step_within.Goals as goal

pub perform_instr-requires-clause-within : goal.perform_instr-requires-clause-within
perform_instr-requires-clause-within c =
    let fact = instruction_at _ _ _ c.index-code-at.result c.requires.code (omega arith) c.index-code-at.is in
    fact.named

pub returns-in_err-over-clause-steps : goal.returns-in_err-over-clause-steps
returns-in_err-over-clause-steps c =
    let p = err_from_is_err_and c.from_residual.result c.from_residual.ensures.1 in
    rw (p.1, p.2) (step_halts c.args.code.now (slice_index c.args.inputs.now) c.args.place.now _ _ c.index-code-at.result _ (omega arith) c.index-code-at.is c.in_err-over.ensures.performs)

pub overflow_add-over : goal.overflow_add-over
overflow_add-over c =
    let within = first_within _ c.args.code.now (slice_index c.args.inputs.now) c.args.place.now _ _ c.index-code-at.result c.in_ok-over.over c.requires.code (omega arith) c.index-code-at.is c.in_ok-over.ensures.performs in
    omega arith

pub overflow_add-place : goal.overflow_add-place
overflow_add-place c =
    let within = first_within _ c.args.code.now (slice_index c.args.inputs.now) c.args.place.now _ _ c.index-code-at.result c.in_ok-over.over c.requires.code (omega arith) c.index-code-at.is c.in_ok-over.ensures.performs in
    omega arith

pub run_on-requires-clause-from : goal.run_on-requires-clause-from
run_on-requires-clause-from c =
    first_within _ c.args.code.now (slice_index c.args.inputs.now) c.args.place.now _ _ c.index-code-at.result c.in_ok-over.over c.requires.code (omega arith) c.index-code-at.is c.in_ok-over.ensures.performs

pub returns-in_err-next-clause-steps : goal.returns-in_err-next-clause-steps
returns-in_err-next-clause-steps c =
    let p = err_from_is_err_and c.from_residual-in_err-next.result c.from_residual-in_err-next.ensures.1 in
    rw (p.1, p.2) (step_halts_behind c.args.code.now (slice_index c.args.inputs.now) c.args.place.now _ _ _ c.index-code-at.result c.in_ok-over.over _ (omega arith) c.index-code-at.is c.in_ok-over.ensures.performs c.in_err-next.ensures.runs)

pub returns-clause-steps : goal.returns-clause-steps
returns-clause-steps c =
    let runs = c.in_ok-next.ensures.runs in (
      step_moves c.args.code.now (slice_index c.args.inputs.now) c.args.place.now _ _ c.index-code-at.result c.in_ok-over.over _ (omega arith) c.index-code-at.is c.in_ok-over.ensures.performs runs.0,
      runs.1 ∙ step_counts c.args.code.now (slice_index c.args.inputs.now) c.args.place.now _ _ c.index-code-at.result c.in_ok-over.over (omega arith) c.index-code-at.is c.in_ok-over.ensures.performs,
    )
