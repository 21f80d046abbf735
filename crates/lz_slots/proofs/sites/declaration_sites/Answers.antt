use Rattle.std.proofs.Common.{◌∙◌, ap, sym, arith}
use Rattle.lz_tree.specs.ScopedTrees.{scoped_declarator}
use Rattle.lz_slots.specs.Nesting.{saturated}
use Rattle.lz_slots.specs.Slots.{SiteRates, declarator_sites}
use Rattle.lz_slots.specs.Walking.{site_rates_of}
use Rattle.lz_slots.proofs.SumLemmas.{declarators_sites-of, sum_end, total}
use Rattle.lz_slots.proofs.sites.declaration_sites.Goals as goal

pub returns : goal.returns
returns c =
    let r : SiteRates = site_rates_of c.args.rates.now.turns c.args.rates.now.weight c.args.rates.now.costs.now c.args.rates.now.bodies.now in
    let end = sum_end (omega arith) c.loop-item.invariant in
    let all = declarators_sites-of r scoped_declarator c.args.objects.now.declarators ∙ ap (total (λ x. declarator_sites r (scoped_declarator x))) (sym c.items-items.ensures) in
    end ∙ ap saturated (sym all)
