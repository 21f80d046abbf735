-- Trusted: where a program has a choice: a call that creates a thread, a call that gives an input, and an integer object of a function that is declared without an initializer.
use Rattle.std.specs.Prelude.{ℕ, List, [], ◌∷◌, Option, Some, None}
use Rattle.lz_tree.specs.declared.scoped.KnownName.{KnownName}
use Rattle.lz_tree.specs.declared.scoped.KnownName.TheVariants as known
use Rattle.lz_tree.specs.declared.scoped.Object.{Object}
use Rattle.lz_tree.specs.declared.scoped.Object.TheVariants.{Local, Cell, Mutex, Cond, Handle, Routine, Known}
use Rattle.lz_tree.specs.ScopedTrees.{ScopedExpression, constant, null, text, object, address, paren, unary, cast, binary, choose, assign, step, call, Lvalue, lvalue, ScopedIndex, whole, element, ScopedExpressions, none, and, ScopedInitializer, nothing, single, listed, ScopedInitDeclarator, ScopedStatement, empty, eval, block, declare, when, while, do_while, for, break, continue, return, label, ScopedBranch, absent, branch, ScopedStatements, nil, cons, ScopedDefinition, ScopedProgram}

-- Each definition gives the line of the first node with a choice, in the order of the text, or none. A node counts whether
-- it is ever reached or not.

-- the earlier of two lines, where the first part of a text stands before the second
abbrev pub first_of_two : Option ℕ → Option ℕ → Option ℕ
first_of_two None later = later
first_of_two (Some line) later = Some line

-- ---- calls

abbrev pub in_known_name : KnownName → ℕ → Option ℕ
in_known_name known.Assert line = None
in_known_name known.Assume line = None
in_known_name known.NondetInt line = Some line
in_known_name known.NondetUint line = Some line
in_known_name known.Error line = None
in_known_name known.ReachError line = None
in_known_name known.Abort line = None
in_known_name known.AtomicBegin line = None
in_known_name known.AtomicEnd line = None
in_known_name known.Create line = Some line
in_known_name known.Join line = None
in_known_name known.Exit line = None
in_known_name known.MutexInit line = None
in_known_name known.MutexDestroy line = None
in_known_name known.MutexLock line = None
in_known_name known.MutexUnlock line = None
in_known_name known.CondInit line = None
in_known_name known.CondDestroy line = None
in_known_name known.CondWait line = None
in_known_name known.CondSignal line = None
in_known_name known.CondBroadcast line = None
in_known_name known.Printf line = None

-- a call of this, on this line
abbrev pub in_callee : Object → ℕ → Option ℕ
in_callee (Local first len kind) line = None
in_callee (Cell first len kind) line = None
in_callee (Mutex first len) line = None
in_callee (Cond first len) line = None
in_callee (Handle first len) line = None
in_callee (Routine function) line = None
in_callee (Known name) line = in_known_name name line

-- ---- expressions (C99 6.5)

abbrev mutual
  pub in_expression : ScopedExpression → Option ℕ
  in_expression (constant line value form kind) = None
  in_expression (null line kind) = None
  in_expression (text line kind) = None
  in_expression (object of kind) = in_place of
  in_expression (address line of kind) = in_place of
  in_expression (paren line inner kind) = in_expression inner
  in_expression (unary line op of kind) = in_expression of
  in_expression (cast line to of kind) = in_expression of
  in_expression (binary line op left right kind) = first_of_two (in_expression left) (in_expression right)
  in_expression (choose line test first second kind) =
      first_of_two (in_expression test) (first_of_two (in_expression first) (in_expression second))
  in_expression (assign line op to value kind) = first_of_two (in_place to) (in_expression value)
  in_expression (step line of up before kind) = in_place of
  in_expression (call line callee args kind) = first_of_two (in_callee callee line) (in_expressions args)

  pub in_place : Lvalue → Option ℕ
  in_place (lvalue line meant index checked) = in_index index

  pub in_index : ScopedIndex → Option ℕ
  in_index whole = None
  in_index (element index) = in_expression index

  pub in_expressions : ScopedExpressions → Option ℕ
  in_expressions none = None
  in_expressions (and e rest) = first_of_two (in_expression e) (in_expressions rest)

abbrev pub in_option : Option ScopedExpression → Option ℕ
in_option None = None
in_option (Some e) = in_expression e

-- ---- declarations (C99 6.7)

-- an object that is declared on this line without an initializer
abbrev pub in_bare_object : Object → ℕ → Option ℕ
in_bare_object (Local first len kind) line = Some line
in_bare_object (Cell first len kind) line = None
in_bare_object (Mutex first len) line = None
in_bare_object (Cond first len) line = None
in_bare_object (Handle first len) line = None
in_bare_object (Routine function) line = None
in_bare_object (Known name) line = None

-- an object that is declared on this line and begins so
abbrev pub in_object : Object → ScopedInitializer → ℕ → Option ℕ
in_object meant nothing line = in_bare_object meant line
in_object meant (single value) line = in_expression value
in_object meant (listed values) line = in_expressions values

-- a declared object; the length of an array is a constant expression, in which nothing is called
abbrev pub in_declarator : ScopedInitDeclarator → Option ℕ
in_declarator d = in_object d.object d.first d.line

abbrev pub in_declarators : List ScopedInitDeclarator → Option ℕ
in_declarators [] = None
in_declarators (d ∷ rest) = first_of_two (in_declarator d) (in_declarators rest)

-- ---- statements (C99 6.8)

abbrev mutual
  pub in_statement : ScopedStatement → Option ℕ
  in_statement empty = None
  in_statement (eval value) = in_expression value
  in_statement (block parts) = in_statements parts
  in_statement (declare of) = in_declarators of.declarators
  in_statement (when line test first second) =
      first_of_two (in_expression test) (first_of_two (in_statement first) (in_branch second))
  in_statement (while line test body) = first_of_two (in_expression test) (in_statement body)
  in_statement (do_while line body test) = first_of_two (in_statement body) (in_expression test)
  in_statement (for line first test change body) =
      first_of_two (in_statement first) (first_of_two (in_option test) (first_of_two (in_option change) (in_statement body)))
  in_statement (break line) = None
  in_statement (continue line) = None
  in_statement (return line value) = in_option value
  in_statement (label name of) = in_statement of

  pub in_branch : ScopedBranch → Option ℕ
  in_branch absent = None
  in_branch (branch of) = in_statement of

  pub in_statements : ScopedStatements → Option ℕ
  in_statements nil = None
  in_statements (cons first rest) = first_of_two (in_statement first) (in_statements rest)

-- ---- programs (C99 6.9)

abbrev pub in_functions : List ScopedDefinition → Option ℕ
in_functions [] = None
in_functions (d ∷ rest) = first_of_two (in_statement d.body) (in_functions rest)

-- the line of the first choice of a program, or none
abbrev pub first_choice : ScopedProgram → Option ℕ
first_choice p = in_functions p.functions
