use Rattle.lz_tree.specs.Trees.{expression}
use Rattle.lz_tree.specs.Height.{expression_height}
use Rattle.lz_tree.proofs.HeightLemmas.{IsSoFar}
use Rattle.lz_tree.proofs.measure.+expression_height.Given as goal

-- the highest so far
abbrev pub invariant-highest-loop-item : goal.invariant-highest-loop-item
invariant-highest-loop-item l = IsSoFar (λ x. expression_height (expression x)) l.items l.item-index l.top
