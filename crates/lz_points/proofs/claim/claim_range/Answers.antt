use Rattle.lz_points.proofs.LoopsLemmas.{range_turn, range_end}
use Rattle.lz_points.proofs.claim.claim_range.Goals as goal

pub loop-k-preserved : goal.loop-k-preserved
loop-k-preserved c = range_turn c.args.tag c.args.first c.args.len c.loop-k.k c.claimed.result c.loop-k.tags c.args.tags.now c.loop-k-test.true c.claimed.ensures c.loop-k.invariant

pub returns : goal.returns
returns c = range_end c.args.tag c.args.first c.args.len c.loop-k.k c.loop-k.tags c.args.tags.now c.loop-k-test.false c.loop-k.invariant
