use Rattle.lz_tree.specs.ScopedTrees.{scoped_statement}
use Rattle.lz_fits.specs.Fits.{statement_fits}
use Rattle.lz_fits.proofs.FitsLemmas.{IsSoFar}
use Rattle.lz_fits.proofs.fits.+statement_fits.Given as goal

-- the statements so far
abbrev pub invariant-parts_fit-loop-item : goal.invariant-parts_fit-loop-item
invariant-parts_fit-loop-item l = IsSoFar (λ x. statement_fits (scoped_statement x)) l.items l.item-index l.fit
