-- Inner: the create sites of code and of trees, by the functions that they start, in the order of the text: one that stands in an argument of another comes before it.
use Rattle.std.specs.Prelude.{ℕ, zero, suc, List, [], ◌∷◌, ◌++◌, Option, Some, None}
use Rattle.lz_tree.specs.declared.scoped.KnownName.TheVariants as known
use Rattle.lz_tree.specs.declared.scoped.Object.{Object}
use Rattle.lz_tree.specs.declared.scoped.Object.TheVariants.{Routine, Known}
use Rattle.lz_tree.specs.ScopedTrees.{ScopedExpression, constant, null, text, object, address, paren, unary, cast, binary, choose, assign, step, call, Lvalue, lvalue, ScopedIndex, whole, element, ScopedExpressions, none, and, ScopedInitializer, nothing, single, listed, ScopedInitDeclarator, ScopedStatement, empty, eval, block, declare, when, while, do_while, for, break, continue, return, label, ScopedBranch, absent, branch, ScopedStatements, nil, cons, ScopedProgram}
use Rattle.lz_model.specs.Programs.{function_at}
use Rattle.lz_bound.specs.BoundedTrees as tree
use Rattle.lz_bound.specs.BoundedTrees.{BoundedStatement}

-- the function that an argument names
abbrev pub named_by : ScopedExpression → List ℕ
named_by (object (lvalue line (Routine function) index checked) kind) = function ∷ []
named_by e = []

-- what a create with these arguments starts
abbrev pub started_in : ScopedExpressions → List ℕ
started_in (and thread (and attribute (and start rest))) = named_by start
started_in args = []

-- what comes after the sites of the arguments: the site of a create, or those of a called body
abbrev pub call_sites : (ℕ → List ℕ) → Object → ScopedExpressions → List ℕ
call_sites bodies (Routine function) args = bodies function
call_sites bodies (Known known.Create) args = started_in args
call_sites bodies callee args = []

module _ (bodies : ℕ → List ℕ) where
  abbrev mutual
    -- the create sites of an expression
    pub sites : ScopedExpression → List ℕ
    sites (constant line value form kind) = []
    sites (null line kind) = []
    sites (text line kind) = []
    sites (object of kind) = lvalue_sites of
    sites (address line of kind) = lvalue_sites of
    sites (paren line e kind) = sites e
    sites (unary line op e kind) = sites e
    sites (cast line to e kind) = sites e
    sites (binary line op a b kind) = sites a ++ sites b
    sites (choose line a b c kind) = sites a ++ (sites b ++ sites c)
    sites (assign line op to e kind) = lvalue_sites to ++ sites e
    sites (step line of up before kind) = lvalue_sites of
    sites (call line callee args kind) = all_sites args ++ call_sites bodies callee args

    -- those of a place
    pub lvalue_sites : Lvalue → List ℕ
    lvalue_sites (lvalue line meant index checked) = index_sites index

    -- those of an index
    pub index_sites : ScopedIndex → List ℕ
    index_sites whole = []
    index_sites (element e) = sites e

    -- those of expressions in a list
    pub all_sites : ScopedExpressions → List ℕ
    all_sites none = []
    all_sites (and e rest) = sites e ++ all_sites rest

  -- those of an expression that may be left out
  abbrev pub optional_sites : Option ScopedExpression → List ℕ
  optional_sites None = []
  optional_sites (Some e) = sites e

  -- those of an initializer
  abbrev pub initializer_sites : ScopedInitializer → List ℕ
  initializer_sites nothing = []
  initializer_sites (single e) = sites e
  initializer_sites (listed es) = all_sites es

  -- those of declarators
  abbrev pub declarators_sites : List ScopedInitDeclarator → List ℕ
  declarators_sites [] = []
  declarators_sites (d ∷ rest) = initializer_sites d.first ++ declarators_sites rest

  -- the sites of one turn so many times
  abbrev pub times : ℕ → List ℕ → List ℕ
  times zero turn = []
  times (suc n) turn = turn ++ times n turn

  module _ (n : ℕ) where
    abbrev mutual
      -- the create sites of a statement, where each loop has n turns (C99 6.8.5)
      pub code_sites : ScopedStatement → List ℕ
      code_sites empty = []
      code_sites (eval e) = sites e
      code_sites (block parts) = parts_sites parts
      code_sites (declare of) = declarators_sites of.declarators
      code_sites (when line test first second) = sites test ++ (code_sites first ++ branch_sites second)
      code_sites (while line test body) = times n (sites test ++ code_sites body) ++ sites test
      code_sites (do_while line body test) = times n (code_sites body ++ sites test)
      code_sites (for line first test change body) =
          code_sites first ++ (times n (optional_sites test ++ (code_sites body ++ optional_sites change)) ++ optional_sites test)
      code_sites (break line) = []
      code_sites (continue line) = []
      code_sites (return line e) = optional_sites e
      code_sites (label name of) = code_sites of

      -- those of what follows `else`
      pub branch_sites : ScopedBranch → List ℕ
      branch_sites absent = []
      branch_sites (branch of) = code_sites of

      -- those of the parts of a block
      pub parts_sites : ScopedStatements → List ℕ
      parts_sites nil = []
      parts_sites (cons s rest) = code_sites s ++ parts_sites rest

-- the create sites of a function's body, calls inlined to a depth and loops unwound
abbrev pub sites_within : ScopedProgram → ℕ → ℕ → ℕ → List ℕ
sites_within p n zero f = []
sites_within p n (suc depth) f = code_sites (sites_within p n depth) n (function_at p f).body

-- no body is called
abbrev pub no_bodies : ℕ → List ℕ
no_bodies f = []

-- the create sites of a bounded tree
abbrev pub tree_sites : BoundedStatement → List ℕ
tree_sites (tree.evals e to) = sites no_bodies e
tree_sites (tree.fresh x) = []
tree_sites (tree.clear x) = []
tree_sites tree.nothing = []
tree_sites (tree.seq a b) = tree_sites a ++ tree_sites b
tree_sites (tree.when test a b) = sites no_bodies test ++ (tree_sites a ++ tree_sites b)
tree_sites (tree.frame number body) = tree_sites body
tree_sites (tree.leave number) = []
tree_sites (tree.exit w) = []
tree_sites tree.stuck = []
tree_sites (tree.inside line index len) = sites no_bodies index
