-- Trusted: the slots of a program, which are the threads that it can create.
-- They are the calls of `pthread_create` that its `main` comes to where both ways of each test count, a loop counts its
-- parts once for each of so many turns, and a call of a function counts that function's body.
use Rattle.std.specs.Prelude.{ℕ, ◌+◌, ◌*◌, List, [], ◌∷◌, length, Option, Some, None}
use Rattle.lz_tree.specs.declared.scoped.Object.{Object}
use Rattle.lz_tree.specs.declared.scoped.Object.TheVariants.{Local, Cell, Mutex, Cond, Handle, Routine, Known}
use Rattle.lz_tree.specs.declared.scoped.KnownName.{KnownName}
use Rattle.lz_tree.specs.declared.scoped.KnownName.TheVariants.{Create}
use Rattle.lz_tree.specs.ScopedTrees.{ScopedExpression, constant, null, text, object, address, paren, unary, cast, binary, choose, assign, step, call, Lvalue, lvalue, ScopedIndex, whole, element, ScopedExpressions, none, and, ScopedInitializer, nothing, single, listed, ScopedInitDeclarator, ScopedStatement, empty, eval, block, declare, when, while, do_while, for, break, continue, return, label, ScopedBranch, absent, branch, ScopedStatements, nil, cons, ScopedDefinition, ScopedProgram}
use Rattle.lz_tree.specs.Calls.{body_at}
use Rattle.lz_slots.specs.Nesting.{through_calls}

-- What the create sites of a tree are counted with: the turns of a loop, the number of a site by the function
-- that it starts, and the number of the sites in each function's body.
pub record SiteRates : Type 0 where
  pub turns : ℕ
  pub weights : ℕ → ℕ
  pub bodies : ℕ → ℕ

-- the function that a name means, or 0 where it means something else
abbrev pub function_of : Object → ℕ
function_of (Local first len kind) = 0
function_of (Cell first len kind) = 0
function_of (Mutex first len) = 0
function_of (Cond first len) = 0
function_of (Handle first len) = 0
function_of (Routine function) = function
function_of (Known name) = 0

-- the function that an argument names
abbrev pub named_function : ScopedExpression → ℕ
named_function (object (lvalue line meant index checked) kind) = function_of meant
named_function _ = 0

-- the function that a create starts, which is its third argument
abbrev pub start_of : ScopedExpressions → ℕ
start_of (and thread (and attribute (and start rest))) = named_function start
start_of _ = 0

-- a call of a known name is a site where it creates a thread
abbrev pub known_sites : SiteRates → KnownName → ScopedExpressions → ℕ
known_sites r Create args = r.weights (start_of args)
known_sites r _ args = 0

-- a call of a function of the file counts its body
abbrev pub callee_sites : SiteRates → Object → ScopedExpressions → ℕ
callee_sites r (Local first len kind) args = 0
callee_sites r (Cell first len kind) args = 0
callee_sites r (Mutex first len) args = 0
callee_sites r (Cond first len) args = 0
callee_sites r (Handle first len) args = 0
callee_sites r (Routine function) args = r.bodies function
callee_sites r (Known name) args = known_sites r name args

abbrev mutual
  -- the sites in an expression, its arguments with it
  pub expression_sites : SiteRates → ScopedExpression → ℕ
  expression_sites r (constant line value form kind) = 0
  expression_sites r (null line kind) = 0
  expression_sites r (text line kind) = 0
  expression_sites r (object of kind) = lvalue_sites r of
  expression_sites r (address line of kind) = lvalue_sites r of
  expression_sites r (paren line e kind) = expression_sites r e
  expression_sites r (unary line op e kind) = expression_sites r e
  expression_sites r (cast line to e kind) = expression_sites r e
  expression_sites r (binary line op a b kind) = expression_sites r a + expression_sites r b
  expression_sites r (choose line a b c kind) = expression_sites r a + expression_sites r b + expression_sites r c
  expression_sites r (assign line op to e kind) = lvalue_sites r to + expression_sites r e
  expression_sites r (step line of up before kind) = lvalue_sites r of
  expression_sites r (call line callee args kind) = callee_sites r callee args + expressions_sites r args

  pub lvalue_sites : SiteRates → Lvalue → ℕ
  lvalue_sites r (lvalue line meant index checked) = index_sites r index

  pub index_sites : SiteRates → ScopedIndex → ℕ
  index_sites r whole = 0
  index_sites r (element e) = expression_sites r e

  pub expressions_sites : SiteRates → ScopedExpressions → ℕ
  expressions_sites r none = 0
  expressions_sites r (and e rest) = expression_sites r e + expressions_sites r rest

abbrev pub optional_sites : SiteRates → Option ScopedExpression → ℕ
optional_sites r None = 0
optional_sites r (Some e) = expression_sites r e

abbrev pub initializer_sites : SiteRates → ScopedInitializer → ℕ
initializer_sites r nothing = 0
initializer_sites r (single e) = expression_sites r e
initializer_sites r (listed values) = expressions_sites r values

abbrev pub declarator_sites : SiteRates → ScopedInitDeclarator → ℕ
declarator_sites r d = optional_sites r d.length + initializer_sites r d.first

abbrev pub declarators_sites : SiteRates → List ScopedInitDeclarator → ℕ
declarators_sites r [] = 0
declarators_sites r (d ∷ rest) = declarator_sites r d + declarators_sites r rest

abbrev mutual
  -- the sites in a statement: a loop counts its test, body and step once a turn, and the test of a `while` or
  -- `for` once more
  pub statement_sites : SiteRates → ScopedStatement → ℕ
  statement_sites r empty = 0
  statement_sites r (eval e) = expression_sites r e
  statement_sites r (block parts) = statements_sites r parts
  statement_sites r (declare of) = declarators_sites r of.declarators
  statement_sites r (when line test first second) = expression_sites r test + statement_sites r first + branch_sites r second
  statement_sites r (while line test body) =
      r.turns * (expression_sites r test + statement_sites r body) + expression_sites r test
  statement_sites r (do_while line body test) = r.turns * (statement_sites r body + expression_sites r test)
  statement_sites r (for line first test change body) =
      statement_sites r first + r.turns * (optional_sites r test + statement_sites r body + optional_sites r change) + optional_sites r test
  statement_sites r (break line) = 0
  statement_sites r (continue line) = 0
  statement_sites r (return line e) = optional_sites r e
  statement_sites r (label name of) = statement_sites r of

  pub branch_sites : SiteRates → ScopedBranch → ℕ
  branch_sites r absent = 0
  branch_sites r (branch s) = statement_sites r s

  pub statements_sites : SiteRates → ScopedStatements → ℕ
  statements_sites r nil = 0
  statements_sites r (cons s rest) = statement_sites r s + statements_sites r rest

-- the sites of a function's body, from those of the functions that it calls
abbrev pub sites_step : List ScopedDefinition → ℕ → (ℕ → ℕ) → (ℕ → ℕ) → ℕ → ℕ
sites_step functions turns weights bodies f =
    statement_sites (record { turns = turns; weights = weights; bodies = bodies }) (body_at functions f)

-- the create sites of a function's body, each counted with the number of the function that it starts
abbrev pub function_sites : List ScopedDefinition → ℕ → (ℕ → ℕ) → ℕ → ℕ
function_sites functions turns weights f = through_calls (sites_step functions turns weights) (length functions) f

-- the create sites of `main`
abbrev pub slots : ScopedProgram → ℕ → ℕ
slots program turns = function_sites program.functions turns (λ f. 1) program.main
