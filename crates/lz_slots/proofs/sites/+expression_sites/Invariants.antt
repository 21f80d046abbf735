use Rattle.lz_tree.specs.ScopedTrees.{scoped_expression}
use Rattle.lz_slots.specs.Slots.{expression_sites}
use Rattle.lz_slots.specs.Walking.{site_rates_of}
use Rattle.lz_slots.proofs.SumLemmas.{IsSumSoFar}
use Rattle.lz_slots.proofs.sites.+expression_sites.Given as goal

-- the sites so far
abbrev pub invariant-expressions_sites-loop-item : goal.invariant-expressions_sites-loop-item
invariant-expressions_sites-loop-item l =
    IsSumSoFar (λ x. expression_sites (site_rates_of l.rates.turns l.rates.weight l.rates.costs.now l.rates.bodies.now) (scoped_expression x)) l.items l.item-index l.sum
