-- The children of a tree as the items of the `Vec` that holds them.
use Rattle.std.proofs.Common.{◌≡◌, ℕ, map, refl, ap, ◌∙◌, Vec, Global}
use mathlib.Core.Former.{Count}
use Rattle.lz_tree.specs.declared.expression.Expr.{Expr, Call, Call', Row_of-Expr, end_of-Expr, more_of-Expr, items-the_row-Expr, items_hidden-the_row-Expr-0}
use Rattle.lz_tree.specs.declared.statement.Stmt.{Stmt, Block, Block', Row_of-Stmt, end_of-Stmt, more_of-Stmt, items-the_row-Stmt, items_hidden-the_row-Stmt-0}
use Rattle.lz_tree.specs.Trees.{call, Expressions, and, expression, expressions, expressions_of, block, Statements, cons, statement, statements, statements_of}

-- the expressions of a row are its items
pub rows_expressions : (n : _) (k : Row_of-Expr n) → expressions k ≡ expressions_of (map expression (items-the_row-Expr n k))
rows_expressions _ end_of-Expr = refl
rows_expressions _ (more_of-Expr e rest) = ap (λ (x : Expressions). and (expression e) x) (rows_expressions _ rest)

-- the statements of a row are its items
pub rows_statements : (n : _) (k : Row_of-Stmt n) → statements k ≡ statements_of (map statement (items-the_row-Stmt n k))
rows_statements _ end_of-Stmt = refl
rows_statements _ (more_of-Stmt s rest) = ap (λ (x : Statements). cons (statement s) x) (rows_statements _ rest)

abbrev row_of_call : Expr → (n : Count) × Row_of-Expr n
row_of_call (Call' line name shape row) = (_, row)
row_of_call _ = (_, end_of-Expr)

abbrev row_of_block : Stmt → (n : Count) × Row_of-Stmt n
row_of_block (Block' shape row) = (_, row)
row_of_block _ = (_, end_of-Stmt)

-- a call's arguments are the items of its list
pub expression-call : (line name : ℕ) (args : Vec Expr Global) → expression (Call line name args) ≡ call line name (expressions_of (map expression args.items))
expression-call line name args =
    let row = row_of_call (Call line name args) in
    ap (call line name) (rows_expressions row.0 row.1 ∙ ap (λ xs. expressions_of (map expression xs)) (items_hidden-the_row-Expr-0 args))

-- what is a call has the items of its list as arguments
pub is_call : (e : Expr) (line name : ℕ) (args : Vec Expr Global) → e ≡ Call line name args → expression e ≡ call line name (expressions_of (map expression args.items))
is_call e line name args is = ap expression is ∙ expression-call line name args

-- a block's parts are the items of its list
pub statement-block : (parts : Vec Stmt Global) → statement (Block parts) ≡ block (statements_of (map statement parts.items))
statement-block parts =
    let row = row_of_block (Block parts) in
    ap block (rows_statements row.0 row.1 ∙ ap (λ xs. statements_of (map statement xs)) (items_hidden-the_row-Stmt-0 parts))

-- what is a block has the items of its list as parts
pub is_block : (s : Stmt) (parts : Vec Stmt Global) → s ≡ Block parts → statement s ≡ block (statements_of (map statement parts.items))
is_block s parts is = ap statement is ∙ statement-block parts
