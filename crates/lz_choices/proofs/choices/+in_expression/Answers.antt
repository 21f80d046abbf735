use Rattle.std.proofs.Common.{◌∙◌, ap, sym, arith}
use Rattle.lz_tree.specs.ScopedTrees.{scoped_expression}
use Rattle.lz_tree.proofs.ScopedTreesLemmas.{is_scoped_call}
use Rattle.lz_choices.specs.Choices.{first_of_two, in_callee, in_expression}
use Rattle.lz_choices.proofs.ChoicesLemmas.{expressions_of, walk_found, walk_end}
use Rattle.lz_choices.proofs.choices.+in_expression.Goals as goal

pub in_expression-returns-in-Call : goal.in_expression-returns-in-Call
in_expression-returns-in-Call t c =
    let is = is_scoped_call c.args.e.now c.in-Call.line c.in-Call.callee c.in-Call.args c.in-Call.kind c.in-Call.is in
    let given = rw (← c.deref-in-Call.ensures.value) at (ap in_expression is) in
    rw given
    (c.first_of-in-Call.ensures ∙ (ap (λ o. first_of_two o c.in_expressions.result) c.in_callee-called.ensures
    ∙ ap (λ o. first_of_two (in_callee c.in-Call.callee c.in-Call.line) o) c.in_expressions.ensures))

pub in_expressions-returns-in-Some : goal.in_expressions-returns-in-Some
in_expressions-returns-in-Some t c =
    walk_found (omega arith) c.item-item.is c.loop-item.invariant c.in_expression.ensures c.in-Some.is ∙ sym (expressions_of scoped_expression c.args.items.now)

pub in_expressions-returns : goal.in_expressions-returns
in_expressions-returns t c = walk_end (omega arith) c.loop-item.invariant ∙ sym (expressions_of scoped_expression c.args.items.now)
