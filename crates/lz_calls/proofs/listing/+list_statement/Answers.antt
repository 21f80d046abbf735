use Rattle.std.proofs.Common.{◌∙◌, ◌++◌, ap, sym, arith}
use Rattle.lz_tree.specs.ScopedTrees.{scoped_statement}
use Rattle.lz_tree.specs.Calls.{statement_calls}
use Rattle.lz_tree.proofs.ScopedTreesLemmas.{is_scoped_block}
use Rattle.lz_calls.proofs.ListingLemmas.{statements_calls-of, so_far_end}
use Rattle.lz_calls.proofs.listing.+list_statement.Goals as goal

pub list_parts-returns : goal.list_parts-returns
list_parts-returns t c =
    so_far_end (omega arith) c.loop-item.invariant ∙ ap (λ ys. c.args.calls.now ++ ys) (sym (statements_calls-of scoped_statement c.args.items.now))

pub list_statement-returns-in_ok-list_parts-in-Block : goal.list_statement-returns-in_ok-list_parts-in-Block
list_statement-returns-in_ok-list_parts-in-Block t c =
    let is = is_scoped_block c.args.s.now c.in-Block.parts c.in-Block.is in
    let given = rw (← c.deref.ensures.value) at (ap statement_calls is) in
    c.in_ok-list_parts-in-Block.ensures ∙ ap (λ ys. c.args.calls.now ++ ys) (sym given)
