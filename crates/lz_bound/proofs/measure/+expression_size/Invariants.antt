use Rattle.lz_tree.specs.ScopedTrees.{scoped_expression}
use Rattle.lz_bound.specs.Sizes.{expression_size}
use Rattle.lz_bound.proofs.SumLemmas.{IsSumSoFar}
use Rattle.lz_bound.proofs.measure.+expression_size.Given as goal

-- the nodes so far
abbrev pub invariant-expressions_size-loop-item : goal.invariant-expressions_size-loop-item
invariant-expressions_size-loop-item l = IsSumSoFar (λ x. expression_size (scoped_expression x)) l.items l.item-index l.sum
