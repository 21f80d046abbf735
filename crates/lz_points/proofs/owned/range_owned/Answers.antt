use Rattle.std.proofs.Common.{arith}
use Rattle.lz_points.proofs.OwningLemmas.{goes_on_next}
use Rattle.lz_points.proofs.owned.range_owned.Goals as goal

pub loop-k-preserved : goal.loop-k-preserved
loop-k-preserved c = goes_on_next c.args.tags.now c.args.tag c.args.first c.args.len c.loop-k.k (omega (arith, c.loop-k-test.true)) c.if-tags-first.false c.loop-k.invariant
