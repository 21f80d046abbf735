use Rattle.lz_tree.specs.ScopedTrees.{scoped_declarator}
use Rattle.lz_slots.specs.Costs.{declarator_cost}
use Rattle.lz_slots.specs.Walking.{rates_of}
use Rattle.lz_slots.proofs.SumLemmas.{IsSumSoFar}
use Rattle.lz_slots.proofs.costs.declaration_cost.Given as goal

-- the cost so far
abbrev pub invariant-loop-item : goal.invariant-loop-item
invariant-loop-item l =
    IsSumSoFar (λ x. declarator_cost (rates_of l.rates.turns l.rates.threads l.rates.bodies.now) (scoped_declarator x)) l.items l.item-index l.sum
