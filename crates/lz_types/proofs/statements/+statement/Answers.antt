use Rattle.std.proofs.Common.{true, map, ◌∙◌}
use Rattle.lz_tree.specs.Trees.{statement, statements_of}
use Rattle.lz_scopes.proofs.PlacesLemmas.{closable, deep, in_statement, in_block, in_for, statement_behind, block_behind, for_behind}
use Rattle.lz_types.proofs.StatementLemmas.{statements_more, statements_end}
use Rattle.lz_tree.proofs.TreesLemmas.{is_block}
use Rattle.lz_scopes.specs.Scopes.{after}
use Rattle.lz_types.specs.Faults.{statement_faults}
use Rattle.lz_scopes.specs.Views.{within}
use Rattle.lz_types.proofs.statements.+statement.Goals as goal

pub walk_inside-end-requires-clause-mark : goal.walk_inside-end-requires-clause-mark
walk_inside-end-requires-clause-mark t c =
    closable c.args.place.now c.walk_statement.new.place _
    (in_statement c.args.in_loop c.args.place.now _ c.walk_statement.new.place (statement c.args.s.now) c.in_ok-mark.ensures.place c.in_ok-walk_statement.ensures.place)
    c.in_ok-mark.ensures.mark

pub walk_inside-end-requires-clause-depth : goal.walk_inside-end-requires-clause-depth
walk_inside-end-requires-clause-depth t c =
    deep c.args.place.now c.walk_statement.new.place
    (in_statement c.args.in_loop c.args.place.now _ c.walk_statement.new.place (statement c.args.s.now) c.in_ok-mark.ensures.place c.in_ok-walk_statement.ensures.place)

pub walk_inside-returns-clause-place : goal.walk_inside-returns-clause-place
walk_inside-returns-clause-place t c =
    c.end.ensures
    ∙ statement_behind c.args.in_loop c.args.place.now _ c.walk_statement.new.place _ (statement c.args.s.now) c.in_ok-mark.ensures.place c.in_ok-walk_statement.ensures.place c.in_ok-mark.ensures.mark

pub walk_block-end-requires-clause-mark : goal.walk_block-end-requires-clause-mark
walk_block-end-requires-clause-mark t c =
    closable c.args.place.now c.walk_statements.new.place _
    (in_block c.args.place.now _ c.walk_statements.new.place (statements_of (map statement c.args.parts.now)) c.in_ok-mark.ensures.place c.in_ok-walk_statements.ensures.place)
    c.in_ok-mark.ensures.mark

pub walk_block-end-requires-clause-depth : goal.walk_block-end-requires-clause-depth
walk_block-end-requires-clause-depth t c =
    deep c.args.place.now c.walk_statements.new.place
    (in_block c.args.place.now _ c.walk_statements.new.place (statements_of (map statement c.args.parts.now)) c.in_ok-mark.ensures.place c.in_ok-walk_statements.ensures.place)

pub walk_block-returns-clause-place : goal.walk_block-returns-clause-place
walk_block-returns-clause-place t c =
    c.end.ensures
    ∙ block_behind c.args.place.now _ c.walk_statements.new.place _ (statements_of (map statement c.args.parts.now)) c.in_ok-mark.ensures.place c.in_ok-walk_statements.ensures.place c.in_ok-mark.ensures.mark

pub walk_statement-end-requires-clause-mark : goal.walk_statement-end-requires-clause-mark
walk_statement-end-requires-clause-mark t c =
    closable c.args.place.now c.walk_inside-in-For.new.place _
    (in_for c.args.place.now _ c.walk_statement.new.place c.walk_inside-in-For.new.place (after (within true c.walk_statement.new.place) (statement c.deref-in-For-2.result.now)) _
    c.in_ok-mark-in-For.ensures.place c.in_ok-walk_statement-in-For.ensures.place c.in_ok-walk_inside-in-For.ensures.place)
    c.in_ok-mark-in-For.ensures.mark

pub walk_statement-end-requires-clause-depth : goal.walk_statement-end-requires-clause-depth
walk_statement-end-requires-clause-depth t c =
    deep c.args.place.now c.walk_inside-in-For.new.place
    (in_for c.args.place.now _ c.walk_statement.new.place c.walk_inside-in-For.new.place (after (within true c.walk_statement.new.place) (statement c.deref-in-For-2.result.now)) _
    c.in_ok-mark-in-For.ensures.place c.in_ok-walk_statement-in-For.ensures.place c.in_ok-walk_inside-in-For.ensures.place)

pub walk_statement-returns-in_ok-walk_inside-in-For-clause-place : goal.walk_statement-returns-in_ok-walk_inside-in-For-clause-place
unfolding after
walk_statement-returns-in_ok-walk_inside-in-For-clause-place t c =
    rw c.in-For.is
    (c.end.ensures
    ∙ for_behind c.args.place.now _ c.walk_statement.new.place c.walk_inside-in-For.new.place _ (statement c.in-For.first.value) (statement c.in-For.body.value)
    c.in_ok-mark-in-For.ensures.place (rw c.deref-in-For.ensures at c.in_ok-walk_statement-in-For.ensures.place)
    (rw c.deref-in-For-2.ensures at c.in_ok-walk_inside-in-For.ensures.place) c.in_ok-mark-in-For.ensures.mark)

pub walk_statement-returns-in_ok-walk_block-in-Block-clause-place : goal.walk_statement-returns-in_ok-walk_block-in-Block-clause-place
unfolding after
walk_statement-returns-in_ok-walk_block-in-Block-clause-place t c =
    rw (is_block c.args.s.now c.in-Block.parts c.in-Block.is) (rw c.deref.ensures.value at c.in_ok-walk_block-in-Block.ensures.place)

pub walk_statement-returns-in_ok-walk_block-in-Block-clause-faults : goal.walk_statement-returns-in_ok-walk_block-in-Block-clause-faults
unfolding statement_faults
walk_statement-returns-in_ok-walk_block-in-Block-clause-faults t c =
    rw (is_block c.args.s.now c.in-Block.parts c.in-Block.is) (rw c.deref.ensures.value at c.in_ok-walk_block-in-Block.ensures.faults)

pub walk_statements-loop-s-preserved : goal.walk_statements-loop-s-preserved
walk_statements-loop-s-preserved t c =
    statements_more c.args.file.now _ c.loop-s.place c.walk_statement.new.place (statements_of (map statement c.args.parts.now)) c.args.parts.now
    c.loop-s.s-index c.s-item.result _ c.loop-s.faults.items c.walk_statement.new.faults.items c.loop-s.invariant c.loop-s-test.true c.s-item.is
    c.in_ok-walk_statement.ensures.place c.in_ok-walk_statement.ensures.faults

pub walk_statements-returns-clause-place : goal.walk_statements-returns-clause-place
walk_statements-returns-clause-place t c = (statements_end c.args.file.now _ c.loop-s.place _ c.args.parts.now c.loop-s.s-index _ c.loop-s.faults.items c.loop-s.invariant c.loop-s-test.false).0

pub walk_statements-returns-clause-faults : goal.walk_statements-returns-clause-faults
walk_statements-returns-clause-faults t c = (statements_end c.args.file.now _ c.loop-s.place _ c.args.parts.now c.loop-s.s-index _ c.loop-s.faults.items c.loop-s.invariant c.loop-s-test.false).1
