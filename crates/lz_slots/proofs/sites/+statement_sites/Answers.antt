use Rattle.std.proofs.Common.{◌∙◌, ap, sym, arith}
use Rattle.lz_tree.specs.ScopedTrees.{scoped_statement}
use Rattle.lz_tree.proofs.ScopedTreesLemmas.{is_scoped_block}
use Rattle.lz_slots.specs.Nesting.{saturated}
use Rattle.lz_slots.specs.Slots.{SiteRates, statement_sites}
use Rattle.lz_slots.specs.Walking.{site_rates_of}
use Rattle.lz_slots.proofs.SumLemmas.{statements_sites-of, sum_end}
use Rattle.lz_slots.proofs.sites.+statement_sites.Goals as goal

pub parts_sites-returns : goal.parts_sites-returns
parts_sites-returns t c =
    let r : SiteRates = site_rates_of c.args.rates.now.turns c.args.rates.now.weight c.args.rates.now.costs.now c.args.rates.now.bodies.now in
    let end = sum_end (omega arith) c.loop-item.invariant in
    end ∙ ap saturated (sym (statements_sites-of r scoped_statement c.args.items.now))

pub statement_sites-returns-in-Block : goal.statement_sites-returns-in-Block
statement_sites-returns-in-Block t c =
    let r : SiteRates = site_rates_of c.args.rates.now.turns c.args.rates.now.weight c.args.rates.now.costs.now c.args.rates.now.bodies.now in
    let is = is_scoped_block c.args.s.now c.in-Block.parts c.in-Block.is in
    let given = rw (← c.deref.ensures.value) at (ap (statement_sites r) is) in
    rw given c.parts_sites.ensures
