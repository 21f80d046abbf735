use Rattle.lz_tree.specs.ScopedTrees.{scoped_declarator}
use Rattle.lz_fits.specs.Fits.{declarator_fits}
use Rattle.lz_fits.proofs.FitsLemmas.{IsSoFar}
use Rattle.lz_fits.proofs.fits.declarators_fit.Given as goal

-- the declarators so far
abbrev pub invariant-loop-item : goal.invariant-loop-item
invariant-loop-item l = IsSoFar (λ x. declarator_fits (scoped_declarator x)) l.items l.item-index l.fit
