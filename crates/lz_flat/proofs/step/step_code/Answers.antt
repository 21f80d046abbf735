use Rattle.std.proofs.Common.{refl, arith, slice_index}
use Rattle.lz_flat.proofs.StepLemmas.{step_ends}
use Rattle.lz_flat.proofs.step.step_code.Goals as goal

pub returns-then-place-code-clause-steps : goal.returns-then-place-code-clause-steps
returns-then-place-code-clause-steps c = (step_ends c.args.code.now (slice_index c.args.inputs.now) c.args.place.now c.args.memory.now (omega arith), refl, refl)
