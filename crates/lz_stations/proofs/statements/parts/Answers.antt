use Rattle.std.proofs.Common.{◌∙◌, ap, sym, map, List}
use Rattle.lz_tree.specs.declared.scoped.ScopedStmt.{ScopedStmt}
use Rattle.lz_tree.specs.ScopedTrees.{scoped_statement, scoped_statements_of}
use Rattle.lz_tree.proofs.ScopedTreesLemmas.{is_scoped_block}
use Rattle.lz_stations.specs.StationMoves.{parts_of}
use Rattle.lz_stations.proofs.statements.parts.Goals as goal

pub returns-in-Block : goal.returns-in-Block
returns-in-Block c =
    let is = is_scoped_block c.args.s.now c.in-Block.parts c.in-Block.is in
    ap (λ (xs : List ScopedStmt). scoped_statements_of (map scoped_statement xs)) c.deref.ensures.value ∙ sym (ap parts_of is)
