use Rattle.std.proofs.Common.{◌∙◌, ◌+◌, ap₂, arith}
use Rattle.lz_generate.specs.Generated.{addend}
use Rattle.lz_generate.proofs.NumberedLemmas.{sum_more}
use Rattle.lz_generate.proofs.generated.added_in_all.Goals as goal

pub loop-block-preserved : goal.loop-block-preserved
loop-block-preserved c = (
  ap₂ (λ total number. total + number) c.loop-block.invariant.0 c.added-total.ensures.value ∙ sum_more (addend c.args.seed c.args.worker) c.loop-block.block,
  omega (arith, c.loop-block.invariant.1, c.added-total.ensures.small),
)
