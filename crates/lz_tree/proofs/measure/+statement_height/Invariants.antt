use Rattle.lz_tree.specs.Trees.{statement}
use Rattle.lz_tree.specs.Height.{statement_height}
use Rattle.lz_tree.proofs.HeightLemmas.{IsSoFar}
use Rattle.lz_tree.proofs.measure.+statement_height.Given as goal

-- the highest so far
abbrev pub invariant-parts_height-loop-item : goal.invariant-parts_height-loop-item
invariant-parts_height-loop-item l = IsSoFar (λ x. statement_height (statement x)) l.items l.item-index l.top
