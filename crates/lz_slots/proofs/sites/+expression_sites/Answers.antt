use Rattle.std.proofs.Common.{◌∙◌, ap, sym, arith}
use Rattle.lz_tree.specs.ScopedTrees.{scoped_expression}
use Rattle.lz_tree.proofs.ScopedTreesLemmas.{is_scoped_call}
use Rattle.lz_slots.specs.Nesting.{saturated}
use Rattle.lz_slots.specs.Slots.{SiteRates, expression_sites}
use Rattle.lz_slots.specs.Walking.{site_rates_of}
use Rattle.lz_slots.proofs.SumLemmas.{expressions_sites-of, sum_end}
use Rattle.lz_slots.proofs.sites.+expression_sites.Goals as goal

pub expression_sites-returns-in-Call : goal.expression_sites-returns-in-Call
expression_sites-returns-in-Call t c =
    let r : SiteRates = site_rates_of c.args.rates.now.turns c.args.rates.now.weight c.args.rates.now.costs.now c.args.rates.now.bodies.now in
    let is = is_scoped_call c.args.e.now c.in-Call.line c.in-Call.callee c.in-Call.args c.in-Call.kind c.in-Call.is in
    let given = rw (← c.deref-in-Call.ensures.value) at (ap (expression_sites r) is) in
    rw given c.call_sites.ensures

pub expressions_sites-returns : goal.expressions_sites-returns
expressions_sites-returns t c =
    let r : SiteRates = site_rates_of c.args.rates.now.turns c.args.rates.now.weight c.args.rates.now.costs.now c.args.rates.now.bodies.now in
    let end = sum_end (omega arith) c.loop-item.invariant in
    end ∙ ap saturated (sym (expressions_sites-of r scoped_expression c.args.items.now))
