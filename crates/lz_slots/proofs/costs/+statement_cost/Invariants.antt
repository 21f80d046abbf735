use Rattle.lz_tree.specs.ScopedTrees.{scoped_statement}
use Rattle.lz_slots.specs.Costs.{statement_cost}
use Rattle.lz_slots.specs.Walking.{rates_of}
use Rattle.lz_slots.proofs.SumLemmas.{IsSumSoFar}
use Rattle.lz_slots.proofs.costs.+statement_cost.Given as goal

-- the cost so far
abbrev pub invariant-parts_cost-loop-item : goal.invariant-parts_cost-loop-item
invariant-parts_cost-loop-item l =
    IsSumSoFar (λ x. statement_cost (rates_of l.rates.turns l.rates.threads l.rates.bodies.now) (scoped_statement x)) l.items l.item-index l.sum
