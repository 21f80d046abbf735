use Rattle.std.proofs.Common.{◌≡◌, ◌∙◌, ℕ, slice_index, ap, sym, arith}
use Rattle.lz_tree.specs.ScopedTrees.{scoped_expression}
use Rattle.lz_tree.proofs.ScopedTreesLemmas.{is_scoped_call}
use Rattle.lz_calls.specs.Calls.{height_in}
use Rattle.lz_calls.specs.Heights.{capped, counts_at}
use Rattle.lz_calls.proofs.TopsLemmas.{height_in_all-of, top_end}
use Rattle.lz_calls.proofs.heights.+expression_height.Goals as goal

pub expressions_height-returns : goal.expressions_height-returns
expressions_height-returns t c =
    let counts : ℕ → ℕ = counts_at c.args.levels.now.ranks.now c.args.levels.now.own (slice_index c.args.levels.now.heights.now) in
    top_end (omega arith) c.loop-item.invariant ∙ ap capped (sym (height_in_all-of counts scoped_expression c.args.items.now))

pub expression_height-returns-in-Call : goal.expression_height-returns-in-Call
unfolding height_in
expression_height-returns-in-Call t c =
    let counts : ℕ → ℕ = counts_at c.args.levels.now.ranks.now c.args.levels.now.own (slice_index c.args.levels.now.heights.now) in
    let is = is_scoped_call c.args.e.now c.in-Call.line c.in-Call.callee c.in-Call.args c.in-Call.kind c.in-Call.is in
    let given = rw (← c.deref-in-Call.ensures.value) at (ap (height_in counts) is) in
    c.call_height.ensures ∙ ap capped (sym given)
