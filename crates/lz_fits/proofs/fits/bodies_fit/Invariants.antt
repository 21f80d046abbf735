use Rattle.lz_tree.specs.ScopedTrees.{scoped_definition}
use Rattle.lz_fits.specs.Fits.{statement_fits}
use Rattle.lz_fits.proofs.FitsLemmas.{IsSoFar}
use Rattle.lz_fits.proofs.fits.bodies_fit.Given as goal

-- the bodies so far
abbrev pub invariant-loop-item : goal.invariant-loop-item
invariant-loop-item l = IsSoFar (λ x. statement_fits (scoped_definition x).body) l.items l.item-index l.fit
