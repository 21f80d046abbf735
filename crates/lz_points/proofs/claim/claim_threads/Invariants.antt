use Rattle.std.proofs.Common.{◌≡◌, ◌+◌, length, drop, map}
use Rattle.std.specs.List.{AllByRecursion}
use Rattle.lz_flat.specs.Programs.{marked}
use Rattle.lz_points.specs.Tags.{NamesWithin, claim_threads}
use Rattle.lz_points.proofs.claim.claim_threads.Given as goal

-- what is left makes the whole
abbrev pub invariant-loop-t : goal.invariant-loop-t
invariant-loop-t l = record {
  left : claim_threads (l.t + 1) (map (λ code. map marked code) (drop l.t l.threads)) l.tags ≡ claim_threads 1 (map (λ code. map marked code) l.threads) l.initial.tags;
  within : AllByRecursion (NamesWithin (length l.tags)) (map (λ code. map marked code) (drop l.t l.threads));
}
