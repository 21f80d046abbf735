use Rattle.std.proofs.Common.{◌≡◌, drop, length}
use Rattle.std.specs.List.{AllByRecursion}
use Rattle.lz_points.specs.Tags.{NamesWithin}
use Rattle.lz_points.proofs.LoopsLemmas.{codes, thinned_from}
use Rattle.lz_points.proofs.thin.thin_threads.Given as goal

-- what is left makes the whole
abbrev pub invariant-loop-t : goal.invariant-loop-t
invariant-loop-t l = record {
  left : thinned_from l.tags l.t (codes l.threads) ≡ thinned_from l.tags 0 (codes l.initial.threads);
  within : AllByRecursion (NamesWithin (length l.tags)) (drop l.t (codes l.threads));
}
