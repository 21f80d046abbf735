use Rattle.lz_prop.proofs.ScanLemmas.{last_more}
use Rattle.lz_prop.proofs.scan.last_set.Goals as goal

pub loop-other-preserved : goal.loop-other-preserved
loop-other-preserved c =
    last_more c.args.levels.now c.args.clause.now c.loop-other.other-index (record { 0 = 0 }) c.args.lit c.loop-other.last c.later-last.result c.loop-other-test.true c.loop-other.invariant c.later-last.ensures
