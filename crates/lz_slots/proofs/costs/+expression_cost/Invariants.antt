use Rattle.lz_tree.specs.ScopedTrees.{scoped_expression}
use Rattle.lz_slots.specs.Costs.{expression_cost}
use Rattle.lz_slots.specs.Walking.{rates_of}
use Rattle.lz_slots.proofs.SumLemmas.{IsSumSoFar}
use Rattle.lz_slots.proofs.costs.+expression_cost.Given as goal

-- the cost so far
abbrev pub invariant-expressions_cost-loop-item : goal.invariant-expressions_cost-loop-item
invariant-expressions_cost-loop-item l =
    IsSumSoFar (λ x. expression_cost (rates_of l.rates.turns l.rates.threads l.rates.bodies.now) (scoped_expression x)) l.items l.item-index l.sum
