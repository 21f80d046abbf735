use Rattle.std.proofs.Common.{◌∙◌, ap, sym, arith}
use Rattle.lz_tree.specs.ScopedTrees.{scoped_declarator}
use Rattle.lz_slots.specs.Nesting.{saturated}
use Rattle.lz_slots.specs.Costs.{Rates, declarator_cost}
use Rattle.lz_slots.specs.Walking.{rates_of}
use Rattle.lz_slots.proofs.SumLemmas.{declarators_cost-of, sum_end, total}
use Rattle.lz_slots.proofs.costs.declaration_cost.Goals as goal

pub returns : goal.returns
returns c =
    let r : Rates = rates_of c.args.rates.now.turns c.args.rates.now.threads c.args.rates.now.bodies.now in
    let end = sum_end (omega arith) c.loop-item.invariant in
    let all = declarators_cost-of r scoped_declarator c.args.objects.now.declarators ∙ ap (total (λ x. declarator_cost r (scoped_declarator x))) (sym c.items-items.ensures) in
    end ∙ ap saturated (sym all)
