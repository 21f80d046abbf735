use Rattle.std.proofs.Common.{◌∙◌, ap, sym, arith}
use Rattle.lz_tree.specs.ScopedTrees.{scoped_statement}
use Rattle.lz_tree.proofs.ScopedTreesLemmas.{is_scoped_block}
use Rattle.lz_choices.specs.Choices.{in_statement}
use Rattle.lz_choices.proofs.ChoicesLemmas.{statements_of, walk_found, walk_end}
use Rattle.lz_choices.proofs.choices.+in_statement.Goals as goal

pub in_statement-returns-in-Block : goal.in_statement-returns-in-Block
in_statement-returns-in-Block t c =
    let is = is_scoped_block c.args.s.now c.in-Block.parts c.in-Block.is in
    let given = rw (← c.deref.ensures.value) at (ap in_statement is) in
    rw given c.in_statements.ensures

pub in_statements-returns-in-Some : goal.in_statements-returns-in-Some
in_statements-returns-in-Some t c =
    walk_found (omega arith) c.item-item.is c.loop-item.invariant c.in_statement.ensures c.in-Some.is ∙ sym (statements_of scoped_statement c.args.items.now)

pub in_statements-returns : goal.in_statements-returns
in_statements-returns t c = walk_end (omega arith) c.loop-item.invariant ∙ sym (statements_of scoped_statement c.args.items.now)
