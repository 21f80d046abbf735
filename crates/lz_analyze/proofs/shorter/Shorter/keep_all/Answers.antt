use Rattle.std.proofs.Common.{◌∙◌}
use Rattle.std.proofs.lemmas.List.Elements.{Contains-get_or}
use Rattle.lz_analyze.proofs.shorter.Shorter.keep_all.Goals as goal

pub loop-lit-preserved : goal.loop-lit-preserved
loop-lit-preserved c = (
  c.in_ok-keep.ensures.part c.args.low.now c.args.point (Contains-get_or c.args.low.now c.loop-lit.lit-index (record { 0 = 0 }) c.loop-lit-test.true) c.loop-lit.invariant.0,
  c.keep.ensures.links ∙ c.loop-lit.invariant.1,
)
