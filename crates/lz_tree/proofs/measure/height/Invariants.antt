use Rattle.lz_tree.specs.Trees.{external_declaration}
use Rattle.lz_tree.specs.Height.{external_height}
use Rattle.lz_tree.proofs.HeightLemmas.{IsSoFar}
use Rattle.lz_tree.proofs.measure.height.Given as goal

-- the highest so far
abbrev pub invariant-loop-item : goal.invariant-loop-item
invariant-loop-item l = IsSoFar (λ x. external_height (external_declaration x)) l.items l.item-index l.top
