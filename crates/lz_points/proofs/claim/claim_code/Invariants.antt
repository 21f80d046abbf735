use Rattle.std.proofs.Common.{◌≡◌, length, drop, map}
use Rattle.lz_flat.specs.Programs.{marked}
use Rattle.lz_points.specs.Tags.{NamesWithin, claim_code}
use Rattle.lz_points.proofs.claim.claim_code.Given as goal

-- what is left makes the whole
abbrev pub invariant-loop-next : goal.invariant-loop-next
invariant-loop-next l = record {
  left : claim_code l.tag (map marked (drop l.next-index l.code)) l.tags ≡ claim_code l.tag (map marked l.code) l.initial.tags;
  within : NamesWithin (length l.tags) (map marked (drop l.next-index l.code));
}
