use Rattle.std.proofs.Common.{map}
use Rattle.lz_tree.specs.Trees.{statement, statements_of}
use Rattle.lz_resolve.proofs.StatementsLemmas.{MadeStatements, left_from}
use Rattle.lz_resolve.proofs.statements.+resolve.Given as goal

abbrev pub invariant-resolve_parts-loop-s : goal.invariant-resolve_parts-loop-s
invariant-resolve_parts-loop-s l =
    MadeStatements l.file l.initial.place l.place (statements_of (map statement l.parts)) (left_from l.parts l.s-index) l.all.items
