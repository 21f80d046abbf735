-- Trusted: the cost of a program within so many turns of each loop and so many rounds.
use Rattle.std.specs.Prelude.{ℕ, suc, ◌+◌, ◌*◌, List, [], ◌∷◌, length, Option, Some, None}
use Rattle.lz_base.specs.declared.operator.Binary.{Binary}
use Rattle.lz_tree.specs.declared.scoped.Object.{Object}
use Rattle.lz_tree.specs.declared.scoped.Object.TheVariants.{Local, Cell, Mutex, Cond, Handle, Routine, Known}
use Rattle.lz_tree.specs.ScopedTrees.{ScopedExpression, constant, null, text, object, address, paren, unary, cast, binary, choose, assign, step, call, lvalue, ScopedIndex, whole, element, ScopedExpressions, none, and, ScopedInitializer, nothing, single, listed, ScopedInitDeclarator, ScopedStatement, empty, eval, block, declare, when, while, do_while, for, break, continue, return, label, ScopedBranch, absent, branch, ScopedStatements, nil, cons, ScopedDefinition, ScopedProgram}
use Rattle.lz_tree.specs.Calls.{body_at}
use Rattle.lz_slots.specs.Nesting.{through_calls}
use Rattle.lz_slots.specs.CostTable.{read_number, assign_number, update_number, step_number, unary_number, binary_number, cast_number, choose_number, call_number, known_number, declarator_number, if_number, turn_number, jump_number, thread_number}
use Rattle.lz_slots.specs.Slots.{function_sites, slots}

-- What the cost of a tree is taken with: the turns of a loop, the number of threads, and the cost of each
-- function's body.
pub record Rates : Type 0 where
  pub turns : ℕ
  pub threads : ℕ
  pub bodies : ℕ → ℕ

-- the elements of an object: its length, and 1 for what has none
abbrev pub length_of : Object → ℕ
length_of (Local first len kind) = len
length_of (Cell first len kind) = len
length_of (Mutex first len) = len
length_of (Cond first len) = len
length_of (Handle first len) = len
length_of (Routine function) = 1
length_of (Known name) = 1

-- the elements of the object that an argument is, or is the address of
abbrev pub argument_length : ScopedExpression → ℕ
argument_length (object (lvalue line meant index checked) kind) = length_of meant
argument_length (address line (lvalue at meant index checked) kind) = length_of meant
argument_length _ = 1

-- those of the first and of the second argument
abbrev pub first_length : ScopedExpressions → ℕ
first_length none = 1
first_length (and e rest) = argument_length e

abbrev pub second_length : ScopedExpressions → ℕ
second_length none = 1
second_length (and e rest) = first_length rest

-- how many arguments there are
abbrev pub number_of : ScopedExpressions → ℕ
number_of none = 0
number_of (and e rest) = suc (number_of rest)

-- an integer object is read; a thread object or a function is handed on without a read
abbrev pub object_number : Object → ScopedIndex → ℕ
object_number (Local first len kind) index = read_number index len
object_number (Cell first len kind) index = read_number index len
object_number (Mutex first len) index = 0
object_number (Cond first len) index = 0
object_number (Handle first len) index = 0
object_number (Routine function) index = 0
object_number (Known name) index = 0

-- `=`, or an assignment with an operator
abbrev pub assignment_number : Option Binary → Object → ScopedIndex → ℕ
assignment_number None meant index = assign_number index (length_of meant)
assignment_number (Some op) meant index = update_number index (length_of meant) + binary_number op

-- a call, its arguments apart: each is kept in a parameter
abbrev pub callee_cost : Rates → Object → ScopedExpressions → ℕ
callee_cost r (Local first len kind) args = 0
callee_cost r (Cell first len kind) args = 0
callee_cost r (Mutex first len) args = 0
callee_cost r (Cond first len) args = 0
callee_cost r (Handle first len) args = 0
callee_cost r (Routine function) args = call_number (number_of args) + r.bodies function
callee_cost r (Known name) args = known_number name r.threads (first_length args) (second_length args)

abbrev mutual
  -- the cost of an expression: its own number and the cost of its parts
  pub expression_cost : Rates → ScopedExpression → ℕ
  expression_cost r (constant line value form kind) = 0
  expression_cost r (null line kind) = 0
  expression_cost r (text line kind) = 0
  expression_cost r (object (lvalue at meant index checked) kind) = object_number meant index + index_cost r index
  expression_cost r (address line (lvalue at meant index checked) kind) = index_cost r index
  expression_cost r (paren line e kind) = expression_cost r e
  expression_cost r (unary line op e kind) = unary_number op + expression_cost r e
  expression_cost r (cast line to e kind) = cast_number + expression_cost r e
  expression_cost r (binary line op a b kind) = binary_number op + expression_cost r a + expression_cost r b
  expression_cost r (choose line a b c kind) = choose_number + expression_cost r a + expression_cost r b + expression_cost r c
  expression_cost r (assign line op (lvalue at meant index checked) e kind) =
      assignment_number op meant index + index_cost r index + expression_cost r e
  expression_cost r (step line (lvalue at meant index checked) up before kind) =
      step_number index (length_of meant) + index_cost r index
  expression_cost r (call line callee args kind) = callee_cost r callee args + expressions_cost r args

  pub index_cost : Rates → ScopedIndex → ℕ
  index_cost r whole = 0
  index_cost r (element e) = expression_cost r e

  pub expressions_cost : Rates → ScopedExpressions → ℕ
  expressions_cost r none = 0
  expressions_cost r (and e rest) = expression_cost r e + expressions_cost r rest

abbrev pub optional_cost : Rates → Option ScopedExpression → ℕ
optional_cost r None = 0
optional_cost r (Some e) = expression_cost r e

abbrev pub initializer_cost : Rates → ScopedInitializer → ℕ
initializer_cost r nothing = 0
initializer_cost r (single e) = expression_cost r e
initializer_cost r (listed values) = expressions_cost r values

-- a declarator, the expression of its length with it
abbrev pub declarator_cost : Rates → ScopedInitDeclarator → ℕ
declarator_cost r d = declarator_number (length_of d.object) + optional_cost r d.length + initializer_cost r d.first

abbrev pub declarators_cost : Rates → List ScopedInitDeclarator → ℕ
declarators_cost r [] = 0
declarators_cost r (d ∷ rest) = declarator_cost r d + declarators_cost r rest

-- a loop, from the cost of its test, which stands once more behind the turns, and of its body and step
abbrev pub loop_cost : Rates → (test body : ℕ) → ℕ
loop_cost r test body = r.turns * (turn_number + test + body) + turn_number + test

abbrev mutual
  -- the cost of a statement: its own number and the cost of its parts, those of a loop once a turn
  pub statement_cost : Rates → ScopedStatement → ℕ
  statement_cost r empty = 0
  statement_cost r (eval e) = expression_cost r e
  statement_cost r (block parts) = statements_cost r parts
  statement_cost r (declare of) = declarators_cost r of.declarators
  statement_cost r (when line test first second) = if_number + expression_cost r test + statement_cost r first + branch_cost r second
  statement_cost r (while line test body) = loop_cost r (expression_cost r test) (statement_cost r body)
  statement_cost r (do_while line body test) = loop_cost r (expression_cost r test) (statement_cost r body)
  statement_cost r (for line first test change body) =
      statement_cost r first + loop_cost r (optional_cost r test) (statement_cost r body + optional_cost r change)
  statement_cost r (break line) = jump_number
  statement_cost r (continue line) = jump_number
  statement_cost r (return line e) = jump_number + optional_cost r e
  statement_cost r (label name of) = statement_cost r of

  pub branch_cost : Rates → ScopedBranch → ℕ
  branch_cost r absent = 0
  branch_cost r (branch s) = statement_cost r s

  pub statements_cost : Rates → ScopedStatements → ℕ
  statements_cost r nil = 0
  statements_cost r (cons s rest) = statement_cost r s + statements_cost r rest

-- the cost of a function's body, from those of the functions that it calls
abbrev pub cost_step : List ScopedDefinition → (turns threads : ℕ) → (ℕ → ℕ) → ℕ → ℕ
cost_step functions turns threads bodies f =
    statement_cost (record { turns = turns; threads = threads; bodies = bodies }) (body_at functions f)

-- the cost of a function's body in a program of so many threads
abbrev pub body_cost : List ScopedDefinition → (turns threads f : ℕ) → ℕ
body_cost functions turns threads f = through_calls (cost_step functions turns threads) (length functions) f

-- the cost of a thread by the function that it runs
abbrev pub thread_cost : List ScopedDefinition → (turns threads f : ℕ) → ℕ
thread_cost functions turns threads f = thread_number + body_cost functions turns threads f

-- The cost of a program: in each round that of the thread of `main` and that of a thread for each create site.
-- There are one more threads than sites.
abbrev pub cost : ScopedProgram → (turns rounds : ℕ) → ℕ
cost program turns rounds =
    let threads : ℕ = slots program turns + 1 in
    let thread : ℕ → ℕ = thread_cost program.functions turns threads in
    rounds * (thread program.main + function_sites program.functions turns thread program.main)
