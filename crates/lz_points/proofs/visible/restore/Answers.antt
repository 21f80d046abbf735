use Rattle.std.proofs.Common.{◌%◌, ℕ, get_or, arith}
use Rattle.std.proofs.lemmas.List.{get_or_default}
use Rattle.std.proofs.lemmas.List.Edits.{map_over_more}
use Rattle.lz_base.specs.Words.{value_bound}
use Rattle.lz_points.proofs.visible.restore.Goals as goal

pub loop-at-preserved : goal.loop-at-preserved
loop-at-preserved c =
    map_over_more (λ (v : ℕ). v % value_bound) c.args.tags.now c.loop-at.tags c.loop-at.at (get_or c.loop-at.tags c.loop-at.at 0) c.loop-at-test.true c.loop-at.invariant
    (get_or_default c.loop-at.tags c.loop-at.at 0 (get_or c.loop-at.tags c.loop-at.at 0) (omega arith))
