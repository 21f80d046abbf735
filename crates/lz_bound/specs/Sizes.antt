-- Inner: how many nodes trees have: statements, and the nodes of their expressions.
use Rattle.std.specs.Prelude.{ℕ, ◌+◌, ◌-◌, ◌^◌, min, List, [], ◌∷◌}
use Rattle.lz_tree.specs.ScopedTrees.{ScopedExpression, constant, null, text, object, address, paren, unary, cast, binary, choose, assign, step, call, Lvalue, lvalue, ScopedIndex, whole, element, ScopedExpressions, none, and}
use Rattle.lz_bound.specs.BoundedTrees.{BoundedStatement, evals, fresh, clear, nothing, seq, when, frame, leave, exit, stuck, inside, BoundedRoutine, BoundedProgram}

-- a number, or the greatest of 64 bits if it is greater
abbrev pub saturated : ℕ → ℕ
saturated n = min n (2 ^ 64 - 1)

abbrev mutual
  -- an expression: itself and its parts, the index of a target among them
  pub expression_size : ScopedExpression → ℕ
  expression_size (constant line value form kind) = 1
  expression_size (null line kind) = 1
  expression_size (text line kind) = 1
  expression_size (object of kind) = target_size of + 1
  expression_size (address line of kind) = target_size of + 1
  expression_size (paren line inner kind) = expression_size inner + 1
  expression_size (unary line op of kind) = expression_size of + 1
  expression_size (cast line to of kind) = expression_size of + 1
  expression_size (binary line op left right kind) = expression_size left + expression_size right + 1
  expression_size (choose line test one two kind) = expression_size test + (expression_size one + expression_size two) + 1
  expression_size (assign line op to value kind) = target_size to + expression_size value + 1
  expression_size (step line of up before kind) = target_size of + 1
  expression_size (call line callee args kind) = expressions_size args + 1

  -- the index of a target
  pub target_size : Lvalue → ℕ
  target_size (lvalue line meant index checked) = index_size index

  -- an index
  pub index_size : ScopedIndex → ℕ
  index_size whole = 0
  index_size (element index) = expression_size index

  -- expressions in a list
  pub expressions_size : ScopedExpressions → ℕ
  expressions_size none = 0
  expressions_size (and e rest) = expression_size e + expressions_size rest

-- a statement: itself, its expressions and its parts; a sequence is one node
abbrev pub statement_size : BoundedStatement → ℕ
statement_size (evals e to) = expression_size e + 1
statement_size (fresh x) = 1
statement_size (clear x) = 1
statement_size nothing = 1
statement_size (seq first rest) = statement_size first + statement_size rest
statement_size (when test one two) = expression_size test + (statement_size one + statement_size two) + 1
statement_size (frame number body) = statement_size body + 1
statement_size (leave number) = 1
statement_size (exit w) = 1
statement_size stuck = 1
statement_size (inside line index len) = expression_size index + 1

-- start routines
abbrev pub routines_size : List BoundedRoutine → ℕ
routines_size [] = 0
routines_size (r ∷ rest) = statement_size r.body + routines_size rest

-- a bounded program
abbrev pub program_size : BoundedProgram → ℕ
program_size b = statement_size b.main + routines_size b.routines
