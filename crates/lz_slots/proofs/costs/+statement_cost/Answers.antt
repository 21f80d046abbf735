use Rattle.std.proofs.Common.{◌∙◌, ap, sym, arith}
use Rattle.lz_tree.specs.ScopedTrees.{scoped_statement}
use Rattle.lz_tree.proofs.ScopedTreesLemmas.{is_scoped_block}
use Rattle.lz_slots.specs.Nesting.{saturated}
use Rattle.lz_slots.specs.Costs.{Rates, statement_cost}
use Rattle.lz_slots.specs.Walking.{rates_of}
use Rattle.lz_slots.proofs.SumLemmas.{statements_cost-of, sum_end}
use Rattle.lz_slots.proofs.costs.+statement_cost.Goals as goal

pub parts_cost-returns : goal.parts_cost-returns
parts_cost-returns t c =
    let r : Rates = rates_of c.args.rates.now.turns c.args.rates.now.threads c.args.rates.now.bodies.now in
    let end = sum_end (omega arith) c.loop-item.invariant in
    end ∙ ap saturated (sym (statements_cost-of r scoped_statement c.args.items.now))

pub statement_cost-returns-in-Block : goal.statement_cost-returns-in-Block
statement_cost-returns-in-Block t c =
    let r : Rates = rates_of c.args.rates.now.turns c.args.rates.now.threads c.args.rates.now.bodies.now in
    let is = is_scoped_block c.args.s.now c.in-Block.parts c.in-Block.is in
    let given = rw (← c.deref.ensures.value) at (ap (statement_cost r) is) in
    rw given c.parts_cost.ensures
