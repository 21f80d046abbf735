use Rattle.std.proofs.Common.{map}
use Rattle.lz_tree.specs.Trees.{statement, statements_of}
use Rattle.lz_types.proofs.StatementLemmas.{WalkedStatements, statements_at}
use Rattle.lz_types.proofs.statements.+statement.Given as goal

abbrev pub invariant-walk_statements-loop-s : goal.invariant-walk_statements-loop-s
invariant-walk_statements-loop-s l =
    WalkedStatements l.file l.initial.place l.place (statements_of (map statement l.parts)) (statements_at l.parts l.s-index) l.initial.faults.items l.faults.items
