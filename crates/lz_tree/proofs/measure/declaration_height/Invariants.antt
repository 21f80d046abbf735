use Rattle.lz_tree.specs.Trees.{init_declarator}
use Rattle.lz_tree.specs.Height.{declarator_height}
use Rattle.lz_tree.proofs.HeightLemmas.{IsSoFar}
use Rattle.lz_tree.proofs.measure.declaration_height.Given as goal

-- the highest so far
abbrev pub invariant-loop-item : goal.invariant-loop-item
invariant-loop-item l = IsSoFar (λ x. declarator_height (init_declarator x)) l.items l.item-index l.top
