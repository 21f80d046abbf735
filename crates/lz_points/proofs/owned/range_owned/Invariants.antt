use Rattle.std.proofs.Common.{◌≡◌, ◌+◌, ◌-◌}
use Rattle.lz_points.specs.Tags.{all_tagged}
use Rattle.lz_points.proofs.owned.range_owned.Given as goal

abbrev pub invariant-loop-k : goal.invariant-loop-k
invariant-loop-k l = all_tagged l.tags l.tag (l.first + l.k) (l.len - l.k) ≡ all_tagged l.tags l.tag l.first l.len
