use Rattle.std.proofs.Common.{true, map, ◌∙◌}
use Rattle.lz_tree.specs.Trees.{statement, statements_of}
use Rattle.lz_tree.proofs.TreesLemmas.{is_block}
use Rattle.lz_scopes.specs.Scopes.{after}
use Rattle.lz_scopes.specs.Views.{within}
use Rattle.lz_scopes.proofs.PlacesLemmas.{closable, deep, in_statement, in_block, in_for, statement_behind, block_behind, for_behind}
use Rattle.lz_resolve.proofs.StatementsLemmas.{statements_more, statements_all, made_block}
use Rattle.lz_resolve.proofs.statements.+resolve.Goals as goal

pub resolve_within-end-requires-clause-mark : goal.resolve_within-end-requires-clause-mark
resolve_within-end-requires-clause-mark t c =
    closable c.args.place.now c.resolve_stmt.new.place _
    (in_statement c.args.in_loop c.args.place.now _ c.resolve_stmt.new.place (statement c.args.s.now) c.in_ok-mark.ensures.place c.in_ok-scoped.ensures.place)
    c.in_ok-mark.ensures.mark

pub resolve_within-end-requires-clause-depth : goal.resolve_within-end-requires-clause-depth
resolve_within-end-requires-clause-depth t c =
    deep c.args.place.now c.resolve_stmt.new.place
    (in_statement c.args.in_loop c.args.place.now _ c.resolve_stmt.new.place (statement c.args.s.now) c.in_ok-mark.ensures.place c.in_ok-scoped.ensures.place)

pub resolve_within-returns-clause-place : goal.resolve_within-returns-clause-place
resolve_within-returns-clause-place t c =
    c.end.ensures
    ∙ statement_behind c.args.in_loop c.args.place.now _ c.resolve_stmt.new.place _ (statement c.args.s.now) c.in_ok-mark.ensures.place c.in_ok-scoped.ensures.place c.in_ok-mark.ensures.mark

pub resolve_block-end-requires-clause-mark : goal.resolve_block-end-requires-clause-mark
resolve_block-end-requires-clause-mark t c =
    closable c.args.place.now c.resolve_parts.new.place _
    (in_block c.args.place.now _ c.resolve_parts.new.place (statements_of (map statement c.args.parts.now)) c.in_ok-mark.ensures.place c.in_ok-scoped.ensures.place)
    c.in_ok-mark.ensures.mark

pub resolve_block-end-requires-clause-depth : goal.resolve_block-end-requires-clause-depth
resolve_block-end-requires-clause-depth t c =
    deep c.args.place.now c.resolve_parts.new.place
    (in_block c.args.place.now _ c.resolve_parts.new.place (statements_of (map statement c.args.parts.now)) c.in_ok-mark.ensures.place c.in_ok-scoped.ensures.place)

pub resolve_block-returns-clause-place : goal.resolve_block-returns-clause-place
resolve_block-returns-clause-place t c =
    c.end.ensures
    ∙ block_behind c.args.place.now _ c.resolve_parts.new.place _ (statements_of (map statement c.args.parts.now)) c.in_ok-mark.ensures.place c.in_ok-scoped.ensures.place c.in_ok-mark.ensures.mark

pub resolve_stmt-end-requires-clause-mark : goal.resolve_stmt-end-requires-clause-mark
resolve_stmt-end-requires-clause-mark t c =
    closable c.args.place.now c.resolve_within-in-For.new.place _
    (in_for c.args.place.now _ c.resolve_stmt.new.place c.resolve_within-in-For.new.place (after (within true c.resolve_stmt.new.place) (statement c.deref-in-For-2.result.now)) _
    c.in_ok-mark-in-For.ensures.place c.in_ok-first-in-For.ensures.place c.in_ok-inner-in-For.ensures.place)
    c.in_ok-mark-in-For.ensures.mark

pub resolve_stmt-end-requires-clause-depth : goal.resolve_stmt-end-requires-clause-depth
resolve_stmt-end-requires-clause-depth t c =
    deep c.args.place.now c.resolve_within-in-For.new.place
    (in_for c.args.place.now _ c.resolve_stmt.new.place c.resolve_within-in-For.new.place (after (within true c.resolve_stmt.new.place) (statement c.deref-in-For-2.result.now)) _
    c.in_ok-mark-in-For.ensures.place c.in_ok-first-in-For.ensures.place c.in_ok-inner-in-For.ensures.place)

pub resolve_stmt-returns-in_ok-inner-in-For-clause-place : goal.resolve_stmt-returns-in_ok-inner-in-For-clause-place
unfolding after
resolve_stmt-returns-in_ok-inner-in-For-clause-place t c =
    rw c.in-For.is
    (c.end.ensures
    ∙ for_behind c.args.place.now _ c.resolve_stmt.new.place c.resolve_within-in-For.new.place _ (statement c.in-For.first.value) (statement c.in-For.body.value)
    c.in_ok-mark-in-For.ensures.place (rw c.deref-in-For.ensures at c.in_ok-first-in-For.ensures.place)
    (rw c.deref-in-For-2.ensures at c.in_ok-inner-in-For.ensures.place) c.in_ok-mark-in-For.ensures.mark)

pub resolve_stmt-returns-in_ok-parts-in-Block-clause-place : goal.resolve_stmt-returns-in_ok-parts-in-Block-clause-place
unfolding after
resolve_stmt-returns-in_ok-parts-in-Block-clause-place t c =
    rw (is_block c.args.s.now c.in-Block.parts c.in-Block.is) (rw c.deref.ensures.value at c.in_ok-parts-in-Block.ensures.place)

pub resolve_stmt-returns-in_ok-parts-in-Block-clause-tree : goal.resolve_stmt-returns-in_ok-parts-in-Block-clause-tree
resolve_stmt-returns-in_ok-parts-in-Block-clause-tree t c =
    made_block c.args.file.now c.args.place.now (statement c.args.s.now) _ _ _ (is_block c.args.s.now c.in-Block.parts c.in-Block.is)
    (rw c.deref.ensures.value at c.in_ok-parts-in-Block.ensures.tree) c.block_of.ensures

pub resolve_parts-loop-s-preserved : goal.resolve_parts-loop-s-preserved
resolve_parts-loop-s-preserved t c =
    statements_more c.args.file.now _ c.loop-s.place c.resolve_stmt.new.place (statements_of (map statement c.args.parts.now)) c.args.parts.now
    c.loop-s.s-index c.s-item.result c.in_ok-scoped.scoped c.loop-s.all.items _ c.loop-s.invariant c.loop-s-test.true c.s-item.is
    c.in_ok-scoped.ensures.place c.in_ok-scoped.ensures.tree c.in_ok-push.ensures.items

pub resolve_parts-returns-clause-place : goal.resolve_parts-returns-clause-place
resolve_parts-returns-clause-place t c =
    (statements_all c.args.file.now _ c.loop-s.place _ c.args.parts.now c.loop-s.s-index c.loop-s.all.items c.loop-s.invariant c.loop-s-test.false).0

pub resolve_parts-returns-clause-tree : goal.resolve_parts-returns-clause-tree
resolve_parts-returns-clause-tree t c =
    (statements_all c.args.file.now _ c.loop-s.place _ c.args.parts.now c.loop-s.s-index c.loop-s.all.items c.loop-s.invariant c.loop-s-test.false).1
