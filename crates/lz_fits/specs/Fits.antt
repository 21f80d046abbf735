-- Inner: whether a thread can run a tree, as a test.
use Rattle.std.specs.Prelude.{ℕ, ◌+◌, Bool, true, not, ◌&&◌, nat_lt, List, [], ◌∷◌, Option, Some, None}
use Rattle.lz_base.specs.Words.{value_bound}
use Rattle.lz_tree.specs.declared.scoped.Object.{Object}
use Rattle.lz_tree.specs.ScopedTrees.{ScopedExpression, constant, null, text, object, address, paren, unary, cast, binary, choose, assign, step, call, Lvalue, lvalue, ScopedIndex, whole, element, ScopedExpressions, none, and, ScopedInitializer, nothing, single, listed, ScopedInitDeclarator, ScopedStatement, empty, eval, block, declare, when, while, do_while, for, break, continue, return, label, ScopedBranch, absent, branch, ScopedStatements, nil, cons, ScopedDefinition}
use Rattle.lz_model.specs.CodeTraces.{first_of, len_of}

abbrev pub has_numbers : Object → Bool
has_numbers meant = not (nat_lt value_bound (first_of meant + len_of meant))

abbrev mutual
  pub fits : ScopedExpression → Bool
  fits (constant line value form kind) = nat_lt value value_bound
  fits (null line kind) = true
  fits (text line kind) = true
  fits (object of kind) = place_fits of
  fits (address line of kind) = place_fits of
  fits (paren line inner kind) = fits inner
  fits (unary line op of kind) = fits of
  fits (cast line to of kind) = fits of
  fits (binary line op left right kind) = fits left && fits right
  fits (choose line test one two kind) = fits test && (fits one && fits two)
  fits (assign line op to value kind) = place_fits to && fits value
  fits (step line of up before kind) = place_fits of
  fits (call line callee args kind) = all_fit args

  pub place_fits : Lvalue → Bool
  place_fits (lvalue line meant index checked) = has_numbers meant && index_fits index

  pub index_fits : ScopedIndex → Bool
  index_fits whole = true
  index_fits (element index) = fits index

  pub all_fit : ScopedExpressions → Bool
  all_fit none = true
  all_fit (and e rest) = fits e && all_fit rest

abbrev pub may_fit : Option ScopedExpression → Bool
may_fit None = true
may_fit (Some e) = fits e

abbrev pub first_fits : ScopedInitializer → Bool
first_fits nothing = true
first_fits (single value) = fits value
first_fits (listed values) = all_fit values

abbrev pub declarator_fits : ScopedInitDeclarator → Bool
declarator_fits d = has_numbers d.object && first_fits d.first

abbrev pub declared_fit : List ScopedInitDeclarator → Bool
declared_fit [] = true
declared_fit (d ∷ rest) = declarator_fits d && declared_fit rest

abbrev mutual
  pub statement_fits : ScopedStatement → Bool
  statement_fits empty = true
  statement_fits (eval value) = fits value
  statement_fits (block parts) = parts_fit parts
  statement_fits (declare of) = declared_fit of.declarators
  statement_fits (when line test one two) = fits test && (statement_fits one && branch_fits two)
  statement_fits (while line test body) = fits test && statement_fits body
  statement_fits (do_while line body test) = statement_fits body && fits test
  statement_fits (for line opens test change body) = statement_fits opens && (may_fit test && (may_fit change && statement_fits body))
  statement_fits (break line) = true
  statement_fits (continue line) = true
  statement_fits (return line value) = may_fit value
  statement_fits (label name of) = statement_fits of

  pub branch_fits : ScopedBranch → Bool
  branch_fits absent = true
  branch_fits (branch of) = statement_fits of

  pub parts_fit : ScopedStatements → Bool
  parts_fit nil = true
  parts_fit (cons s rest) = statement_fits s && parts_fit rest

abbrev pub bodies_fit : List ScopedDefinition → Bool
bodies_fit [] = true
bodies_fit (d ∷ rest) = statement_fits d.body && bodies_fit rest
