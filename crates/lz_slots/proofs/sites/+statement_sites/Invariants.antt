use Rattle.lz_tree.specs.ScopedTrees.{scoped_statement}
use Rattle.lz_slots.specs.Slots.{statement_sites}
use Rattle.lz_slots.specs.Walking.{site_rates_of}
use Rattle.lz_slots.proofs.SumLemmas.{IsSumSoFar}
use Rattle.lz_slots.proofs.sites.+statement_sites.Given as goal

-- the sites so far
abbrev pub invariant-parts_sites-loop-item : goal.invariant-parts_sites-loop-item
invariant-parts_sites-loop-item l =
    IsSumSoFar (λ x. statement_sites (site_rates_of l.rates.turns l.rates.weight l.rates.costs.now l.rates.bodies.now) (scoped_statement x)) l.items l.item-index l.sum
