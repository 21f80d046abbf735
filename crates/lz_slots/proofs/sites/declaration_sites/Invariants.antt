use Rattle.lz_tree.specs.ScopedTrees.{scoped_declarator}
use Rattle.lz_slots.specs.Slots.{declarator_sites}
use Rattle.lz_slots.specs.Walking.{site_rates_of}
use Rattle.lz_slots.proofs.SumLemmas.{IsSumSoFar}
use Rattle.lz_slots.proofs.sites.declaration_sites.Given as goal

-- the sites so far
abbrev pub invariant-loop-item : goal.invariant-loop-item
invariant-loop-item l =
    IsSumSoFar (λ x. declarator_sites (site_rates_of l.rates.turns l.rates.weight l.rates.costs.now l.rates.bodies.now) (scoped_declarator x)) l.items l.item-index l.sum
