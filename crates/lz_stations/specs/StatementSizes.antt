-- Inner: how large a statement is: a part is smaller than its statement.
use Rattle.std.specs.Prelude.{ℕ, suc, ◌+◌}
use Rattle.lz_tree.specs.ScopedTrees.{ScopedStatement, empty, eval, block, declare, when, while, do_while, for, break, continue, return, label, ScopedBranch, absent, branch, ScopedStatements, nil, cons}

abbrev mutual
  pub statement_size : ScopedStatement → ℕ
  statement_size empty = 1
  statement_size (eval value) = 1
  statement_size (block parts) = suc (statements_size parts)
  statement_size (declare of) = 1
  statement_size (when line test one two) = suc (statement_size one + branch_size two)
  statement_size (while line test body) = suc (statement_size body)
  statement_size (do_while line body test) = suc (statement_size body)
  statement_size (for line opens test change body) = suc (statement_size opens + statement_size body)
  statement_size (break line) = 1
  statement_size (continue line) = 1
  statement_size (return line value) = 1
  statement_size (label name of) = suc (statement_size of)

  pub branch_size : ScopedBranch → ℕ
  branch_size absent = 0
  branch_size (branch of) = statement_size of

  pub statements_size : ScopedStatements → ℕ
  statements_size nil = 0
  statements_size (cons s rest) = statement_size s + statements_size rest
