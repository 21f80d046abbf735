use Rattle.std.proofs.Common.{◌≡◌, ◌∙◌, ◌+◌, ap, sym, arith}
use Rattle.lz_tree.specs.ScopedTrees.{scoped_expression, scoped_index_of}
use Rattle.lz_tree.proofs.ScopedTreesLemmas.{scoped_index-back, is_scoped_call}
use Rattle.lz_slots.specs.Nesting.{saturated}
use Rattle.lz_slots.specs.Costs.{Rates, assignment_number, index_cost, expression_cost}
use Rattle.lz_slots.specs.Walking.{rates_of}
use Rattle.lz_slots.proofs.SumLemmas.{expressions_cost-of, sum_end}
use Rattle.lz_slots.proofs.costs.+expression_cost.Goals as goal

pub expression_cost-returns-in-Assign : goal.expression_cost-returns-in-Assign
expression_cost-returns-in-Assign t c =
    let r : Rates = rates_of c.args.rates.now.turns c.args.rates.now.threads c.args.rates.now.bodies.now in
    let op = c.in-Assign.op in
    let target = c.in-Assign.target in
    let is : expression_cost r (scoped_expression c.args.e.now) ≡ assignment_number op target.object (scoped_index_of target.index) + index_cost r (scoped_index_of target.index) + expression_cost r (scoped_expression c.in-Assign.value.value) =
    rw (scoped_index-back target.index) at (ap (λ e. expression_cost r (scoped_expression e)) c.in-Assign.is) in
    let value : c.expression_cost-in-Assign.result ≡ saturated (expression_cost r (scoped_expression c.in-Assign.value.value)) = rw (← c.deref-in-Assign.ensures) c.expression_cost-in-Assign.ensures in
    omega (arith, is, value, c.index_cost-in-Assign.ensures, c.assignment_number.ensures, c.plus-parts.ensures, c.plus-in-Assign.ensures)

pub expression_cost-returns-in-Call : goal.expression_cost-returns-in-Call
expression_cost-returns-in-Call t c =
    let r : Rates = rates_of c.args.rates.now.turns c.args.rates.now.threads c.args.rates.now.bodies.now in
    let is = is_scoped_call c.args.e.now c.in-Call.line c.in-Call.callee c.in-Call.args c.in-Call.kind c.in-Call.is in
    let given = rw (← c.deref-in-Call.ensures.value) at (ap (expression_cost r) is) in
    rw given c.call_cost.ensures

pub expressions_cost-returns : goal.expressions_cost-returns
expressions_cost-returns t c =
    let r : Rates = rates_of c.args.rates.now.turns c.args.rates.now.threads c.args.rates.now.bodies.now in
    let end = sum_end (omega arith) c.loop-item.invariant in
    end ∙ ap saturated (sym (expressions_cost-of r scoped_expression c.args.items.now))
