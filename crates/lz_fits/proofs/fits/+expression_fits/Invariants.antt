use Rattle.lz_tree.specs.ScopedTrees.{scoped_expression}
use Rattle.lz_fits.specs.Fits.{fits}
use Rattle.lz_fits.proofs.FitsLemmas.{IsSoFar}
use Rattle.lz_fits.proofs.fits.+expression_fits.Given as goal

-- the expressions so far
abbrev pub invariant-all_fit-loop-item : goal.invariant-all_fit-loop-item
invariant-all_fit-loop-item l = IsSoFar (λ x. fits (scoped_expression x)) l.items l.item-index l.fit
