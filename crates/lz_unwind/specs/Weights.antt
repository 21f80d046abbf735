-- Inner: how much there is to translate: a statement with its expressions, and the bodies of functions.
use Rattle.std.specs.Prelude.{ℕ, ◌+◌, ◌*◌, List, [], ◌∷◌, Option, Some, None}
use Rattle.lz_tree.specs.ScopedTrees.{ScopedDefinition, ScopedInitializer, nothing, single, listed, ScopedInitDeclarator, ScopedStatement, empty, eval, block, declare, when, while, do_while, for, break, continue, return, label, ScopedBranch, absent, branch, ScopedStatements, nil, cons, ScopedExpression}
use Rattle.lz_bound.specs.Sizes.{expression_size, expressions_size}

-- an expression that may be missing
abbrev pub option_weight : Option ScopedExpression → ℕ
option_weight None = 0
option_weight (Some e) = expression_size e

-- an initializer
abbrev pub initializer_weight : ScopedInitializer → ℕ
initializer_weight nothing = 0
initializer_weight (single e) = expression_size e
initializer_weight (listed values) = expressions_size values

-- declared objects
abbrev pub declarators_weight : List ScopedInitDeclarator → ℕ
declarators_weight [] = 0
declarators_weight (d ∷ rest) = initializer_weight d.first + declarators_weight rest

abbrev mutual
  -- a statement: itself, its expressions and its parts
  pub statement_weight : ScopedStatement → ℕ
  statement_weight empty = 1
  statement_weight (eval e) = expression_size e + 1
  statement_weight (block parts) = statements_weight parts + 1
  statement_weight (declare of) = declarators_weight of.declarators + 1
  statement_weight (when line test first second) = expression_size test + (statement_weight first + branch_weight second) + 1
  statement_weight (while line test body) = expression_size test + statement_weight body + 1
  statement_weight (do_while line body test) = expression_size test + statement_weight body + 1
  statement_weight (for line first test change body) =
      statement_weight first + (option_weight test + option_weight change) + statement_weight body + 1
  statement_weight (break line) = 1
  statement_weight (continue line) = 1
  statement_weight (return line value) = option_weight value + 1
  statement_weight (label name of) = statement_weight of + 1

  -- what follows `else`
  pub branch_weight : ScopedBranch → ℕ
  branch_weight absent = 0
  branch_weight (branch of) = statement_weight of

  -- statements in the order of the text
  pub statements_weight : ScopedStatements → ℕ
  statements_weight nil = 0
  statements_weight (cons s rest) = statement_weight s + statements_weight rest

-- More than four times the weight of each body, and what goes on from it.
abbrev pub most : List ScopedDefinition → ℕ
most [] = 1
most (f ∷ rest) = 4 * statement_weight f.body + 4 + most rest
