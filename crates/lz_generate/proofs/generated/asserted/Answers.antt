use Rattle.std.proofs.Common.{◌∙◌, ◌+◌, ap₂, arith}
use Rattle.lz_generate.specs.Generated.{worker_sum}
use Rattle.lz_generate.proofs.NumberedLemmas.{sum_more}
use Rattle.lz_generate.proofs.generated.asserted.Goals as goal

pub loop-worker-preserved : goal.loop-worker-preserved
loop-worker-preserved c = (
  ap₂ (λ total number. total + number) c.loop-worker.invariant.0 c.added_in_all-total.ensures.value ∙ sum_more (worker_sum c.args.seed) c.loop-worker.worker,
  omega (arith, c.loop-worker.invariant.1, c.added_in_all-total.ensures.small),
)
