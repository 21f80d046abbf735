use Rattle.std.proofs.Common.{arith}
use Rattle.lz_flat.proofs.StraightRunLemmas.{statement_at}
use Rattle.lz_ssa.proofs.StatementLoopLemmas.{statements_turn, statements_end}
use Rattle.lz_ssa.proofs.make.add_statements.Goals as goal

pub statement-requires-clause-within : goal.statement-requires-clause-within
statement-requires-clause-within c =
    rw c.loop-i.invariant.1 (statement_at _ c.args.list.now c.loop-i.i c.index-list-i.result c.requires.formed c.loop-i-test.true c.index-list-i.is)

pub loop-i-preserved : goal.loop-i-preserved
loop-i-preserved c =
    (statements_turn _ c.loop-i.i c.index-list-i.result _ c.loop-i-test.true c.index-list-i.is c.loop-i.invariant.0 c.in_ok-statement.ensures.made, omega arith)

pub returns : goal.returns
returns c = statements_end _ c.loop-i.i _ _ (omega arith) c.loop-i.invariant.0
