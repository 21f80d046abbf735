-- The parts of a sequence, as the items of the `Vec` that holds them.
use Rattle.std.proofs.Common.{◌≡◌, map, refl, ap, ◌∙◌, Vec, Global}
use mathlib.Core.Former.{Count}
use Rattle.lz_bound.specs.declared.tree.BoundedStmt.{BoundedStmt, Seq, Seq', Row_of-BoundedStmt, end_of-BoundedStmt, more_of-BoundedStmt, items-the_row-BoundedStmt, items_hidden-the_row-BoundedStmt-0}
use Rattle.lz_bound.specs.BoundedTrees.{BoundedStatement, seq, bounded_statement, bounded_statements, bounded_statements_of}

-- the statements of a row are its items
pub rows_bounded_statements : (n : _) (k : Row_of-BoundedStmt n) → bounded_statements k ≡ bounded_statements_of (map bounded_statement (items-the_row-BoundedStmt n k))
rows_bounded_statements _ end_of-BoundedStmt = refl
rows_bounded_statements _ (more_of-BoundedStmt s rest) = ap (λ (x : BoundedStatement). seq (bounded_statement s) x) (rows_bounded_statements _ rest)

abbrev row_of_seq : BoundedStmt → (n : Count) × Row_of-BoundedStmt n
row_of_seq (Seq' shape row) = (_, row)
row_of_seq _ = (_, end_of-BoundedStmt)

-- a sequence's parts are the items of its list
pub bounded_statement-seq : (parts : Vec BoundedStmt Global) → bounded_statement (Seq parts) ≡ bounded_statements_of (map bounded_statement parts.items)
bounded_statement-seq parts =
    let row = row_of_seq (Seq parts) in
    rows_bounded_statements row.0 row.1 ∙ ap (λ xs. bounded_statements_of (map bounded_statement xs)) (items_hidden-the_row-BoundedStmt-0 parts)

-- what is a sequence has the items of its list as parts
pub is_bounded_seq : (s : BoundedStmt) (parts : Vec BoundedStmt Global) → s ≡ Seq parts → bounded_statement s ≡ bounded_statements_of (map bounded_statement parts.items)
is_bounded_seq s parts is = ap bounded_statement is ∙ bounded_statement-seq parts
