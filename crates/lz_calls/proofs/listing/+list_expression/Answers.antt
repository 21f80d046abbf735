use Rattle.std.proofs.Common.{◌∙◌, ◌++◌, ap, sym, arith}
use Rattle.lz_tree.specs.ScopedTrees.{scoped_expression}
use Rattle.lz_tree.specs.Calls.{expression_calls}
use Rattle.lz_tree.proofs.ScopedTreesLemmas.{is_scoped_call}
use Rattle.lz_calls.proofs.ListingLemmas.{expressions_calls-of, so_far_end}
use Rattle.lz_calls.proofs.listing.+list_expression.Goals as goal

pub list_expressions-returns : goal.list_expressions-returns
list_expressions-returns t c =
    so_far_end (omega arith) c.loop-item.invariant ∙ ap (λ ys. c.args.calls.now ++ ys) (sym (expressions_calls-of scoped_expression c.args.items.now))

pub list_expression-returns-in_ok-list_call-in-Call : goal.list_expression-returns-in_ok-list_call-in-Call
list_expression-returns-in_ok-list_call-in-Call t c =
    let is = is_scoped_call c.args.e.now c.in-Call.line c.in-Call.callee c.in-Call.args c.in-Call.kind c.in-Call.is in
    let given = rw (← c.deref-in-Call.ensures.value) at (ap expression_calls is) in
    c.in_ok-list_call-in-Call.ensures ∙ ap (λ ys. c.args.calls.now ++ ys) (sym given)
