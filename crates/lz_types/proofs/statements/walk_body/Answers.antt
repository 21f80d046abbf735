use Rattle.lz_tree.proofs.TreesLemmas.{is_block}
use Rattle.lz_types.proofs.statements.walk_body.Goals as goal

pub returns-in_ok-walk_statements-in-Block-clause-place : goal.returns-in_ok-walk_statements-in-Block-clause-place
returns-in_ok-walk_statements-in-Block-clause-place c =
    rw (is_block c.args.s.now c.in-Block.outermost c.in-Block.is) (rw c.deref.ensures.value at c.in_ok-walk_statements-in-Block.ensures.place)

pub returns-in_ok-walk_statements-in-Block-clause-faults : goal.returns-in_ok-walk_statements-in-Block-clause-faults
returns-in_ok-walk_statements-in-Block-clause-faults c =
    rw (is_block c.args.s.now c.in-Block.outermost c.in-Block.is) (rw c.deref.ensures.value at c.in_ok-walk_statements-in-Block.ensures.faults)
