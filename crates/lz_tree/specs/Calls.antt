-- Trusted: which functions of the file a tree calls, and an order of the functions in which each stands behind those that it calls.
use Rattle.std.specs.Prelude.{ℕ, zero, suc, ◌≡◌, ◌<◌, List, [], ◌∷◌, ◌++◌, length, slice_index, All, Option, Some, None}
use Rattle.lz_tree.specs.declared.scoped.Object.{Object}
use Rattle.lz_tree.specs.declared.scoped.Object.TheVariants.{Local, Cell, Mutex, Cond, Handle, Routine, Known}
use Rattle.lz_tree.specs.ScopedTrees.{ScopedExpression, constant, null, text, object, address, paren, unary, cast, binary, choose, assign, step, call, Lvalue, lvalue, ScopedIndex, whole, element, ScopedExpressions, none, and, ScopedInitializer, nothing, single, listed, ScopedInitDeclarator, ScopedStatement, empty, eval, block, declare, when, while, do_while, for, break, continue, return, label, ScopedBranch, absent, branch, ScopedStatements, nil, cons, ScopedDefinition}

-- the function that a call runs, where the file has it
abbrev pub called : Object → List ℕ
called (Local first len kind) = []
called (Cell first len kind) = []
called (Mutex first len) = []
called (Cond first len) = []
called (Handle first len) = []
called (Routine function) = function ∷ []
called (Known name) = []

abbrev mutual
  -- the functions that an expression calls; a start routine that `pthread_create` names is not called
  pub expression_calls : ScopedExpression → List ℕ
  expression_calls (constant line value form kind) = []
  expression_calls (null line kind) = []
  expression_calls (text line kind) = []
  expression_calls (object of kind) = lvalue_calls of
  expression_calls (address line of kind) = lvalue_calls of
  expression_calls (paren line e kind) = expression_calls e
  expression_calls (unary line op e kind) = expression_calls e
  expression_calls (cast line to e kind) = expression_calls e
  expression_calls (binary line op l r kind) = expression_calls l ++ expression_calls r
  expression_calls (choose line a b c kind) = expression_calls a ++ (expression_calls b ++ expression_calls c)
  expression_calls (assign line op to e kind) = lvalue_calls to ++ expression_calls e
  expression_calls (step line of up before kind) = lvalue_calls of
  expression_calls (call line callee args kind) = expressions_calls args ++ called callee

  pub lvalue_calls : Lvalue → List ℕ
  lvalue_calls (lvalue line meant index checked) = index_calls index

  pub index_calls : ScopedIndex → List ℕ
  index_calls whole = []
  index_calls (element e) = expression_calls e

  pub expressions_calls : ScopedExpressions → List ℕ
  expressions_calls none = []
  expressions_calls (and e rest) = expression_calls e ++ expressions_calls rest

abbrev pub optional_calls : Option ScopedExpression → List ℕ
optional_calls None = []
optional_calls (Some e) = expression_calls e

abbrev pub initializer_calls : ScopedInitializer → List ℕ
initializer_calls nothing = []
initializer_calls (single e) = expression_calls e
initializer_calls (listed values) = expressions_calls values

abbrev pub declarators_calls : List ScopedInitDeclarator → List ℕ
declarators_calls [] = []
declarators_calls (d ∷ rest) = optional_calls d.length ++ (initializer_calls d.first ++ declarators_calls rest)

abbrev mutual
  -- the functions that a statement calls
  pub statement_calls : ScopedStatement → List ℕ
  statement_calls empty = []
  statement_calls (eval e) = expression_calls e
  statement_calls (block parts) = statements_calls parts
  statement_calls (declare of) = declarators_calls of.declarators
  statement_calls (when line test first second) = expression_calls test ++ (statement_calls first ++ branch_calls second)
  statement_calls (while line test body) = expression_calls test ++ statement_calls body
  statement_calls (do_while line body test) = statement_calls body ++ expression_calls test
  statement_calls (for line first test change body) =
      statement_calls first ++ (optional_calls test ++ (optional_calls change ++ statement_calls body))
  statement_calls (break line) = []
  statement_calls (continue line) = []
  statement_calls (return line e) = optional_calls e
  statement_calls (label name of) = statement_calls of

  pub branch_calls : ScopedBranch → List ℕ
  branch_calls absent = []
  branch_calls (branch s) = statement_calls s

  pub statements_calls : ScopedStatements → List ℕ
  statements_calls nil = []
  statements_calls (cons s rest) = statement_calls s ++ statements_calls rest

-- the body of a function by its number, and the empty statement for a number that no function has
abbrev pub body_at : List ScopedDefinition → ℕ → ScopedStatement
body_at [] f = empty
body_at (d ∷ rest) zero = d.body
body_at (d ∷ rest) (suc f) = body_at rest f

-- a number stands in a list before the place `i`
abbrev pub StandsBefore : List ℕ → ℕ → ℕ → Type 0
StandsBefore order i f = (j : ℕ) × (j < i) × (slice_index order j ≡ f)

-- An order of the numbers of all functions in which each stands behind those that its body calls. A program has
-- one exactly where no function can reach itself through calls.
pub record IsCallOrder (functions : List ScopedDefinition) (order : List ℕ) : Type 0 where
  pub whole : length order ≡ length functions
  pub within : All (λ f. f < length functions) order
  pub all : (f : ℕ) → f < length functions → StandsBefore order (length order) f
  pub behind : (i : ℕ) → i < length order → All (StandsBefore order i) (statement_calls (body_at functions (slice_index order i)))
