use Rattle.std.proofs.Common.{◌≡◌, ◌+◌, ◌-◌}
use Rattle.lz_points.specs.Tags.{claim_range}
use Rattle.lz_points.proofs.claim.claim_range.Given as goal

-- what is left makes the whole
abbrev pub invariant-loop-k : goal.invariant-loop-k
invariant-loop-k l = claim_range l.tag (l.first + l.k) (l.len - l.k) l.tags ≡ claim_range l.tag l.first l.len l.initial.tags
