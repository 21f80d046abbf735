-- Inner: bounded and slotted trees as definitions read them, without pointers and capacities.
use Rattle.std.specs.Prelude.{ℕ, Bool, List, [], ◌∷◌, map, Option}
use Rattle.lz_tree.specs.declared.scoped.Object.{Object}
use Rattle.lz_tree.specs.ScopedTrees.{ScopedExpression, scoped_expression}
use Rattle.lz_bound.specs.declared.tree.BoundedStmt.{BoundedStmt, Eval, Fresh, Clear, Seq', If', Frame', Leave, Exit, Stuck, Inside, Row_of-BoundedStmt, end_of-BoundedStmt, more_of-BoundedStmt}
use Rattle.lz_bound.specs.declared.tree.Routine.{Routine}
use Rattle.lz_bound.specs.declared.tree.Bounded.{Bounded}
use Rattle.lz_bound.specs.declared.tree.Slot.{Slot}
use Rattle.lz_bound.specs.declared.tree.Slotted.{Slotted}

-- A statement of a bounded tree. A sequence is its first part and the rest, and the empty one.
pub data BoundedStatement : Type 0 where
  evals : (value : ScopedExpression) (to : Option Object) → BoundedStatement
  fresh : (object : Object) → BoundedStatement
  clear : (object : Object) → BoundedStatement
  nothing : BoundedStatement
  seq : (first rest : BoundedStatement) → BoundedStatement
  when : (test : ScopedExpression) (one two : BoundedStatement) → BoundedStatement
  frame : (number : ℕ) (body : BoundedStatement) → BoundedStatement
  leave : (number : ℕ) → BoundedStatement
  exit : (whole : Bool) → BoundedStatement
  stuck : BoundedStatement
  inside : (line : ℕ) (index : ScopedExpression) (len : ℕ) → BoundedStatement

abbrev mutual
  -- what a statement is without its pointers
  pub bounded_statement : BoundedStmt → BoundedStatement
  bounded_statement (Eval value to) = evals (scoped_expression value) to
  bounded_statement (Fresh object) = fresh object
  bounded_statement (Clear object) = clear object
  bounded_statement (Seq' shape parts) = bounded_statements parts
  bounded_statement (If' test p one q two) = when (scoped_expression test) (bounded_statement one) (bounded_statement two)
  bounded_statement (Frame' number p body) = frame number (bounded_statement body)
  bounded_statement (Leave number) = leave number
  bounded_statement (Exit whole) = exit whole
  bounded_statement Stuck = stuck
  bounded_statement (Inside line index len) = inside line (scoped_expression index) len

  -- what the statements of a row are
  pub bounded_statements : {m : _} → Row_of-BoundedStmt m → BoundedStatement
  bounded_statements end_of-BoundedStmt = nothing
  bounded_statements (more_of-BoundedStmt s rest) = seq (bounded_statement s) (bounded_statements rest)

-- the statements of a list, one after the other
abbrev pub bounded_statements_of : List BoundedStatement → BoundedStatement
bounded_statements_of [] = nothing
bounded_statements_of (s ∷ rest) = seq s (bounded_statements_of rest)

-- the function of a start routine, and its code
pub record BoundedRoutine : Type 0 where
  pub function : ℕ
  pub body : BoundedStatement

-- the code of `main` and of the start routines
pub record BoundedProgram : Type 0 where
  pub main : BoundedStatement
  pub routines : List BoundedRoutine

-- the code of `main`, and that of the thread of each create site, in the order of the sites
pub record SlottedProgram : Type 0 where
  pub main : BoundedStatement
  pub slots : List BoundedRoutine

-- what a routine is without its pointers
abbrev pub bounded_routine : Routine → BoundedRoutine
bounded_routine r = record { function = r.function; body = bounded_statement r.body }

-- what a bounded program is without its pointers
abbrev pub bounded_program : Bounded → BoundedProgram
bounded_program b = record { main = bounded_statement b.main; routines = map bounded_routine b.routines }

-- what a slot is without its pointers
abbrev pub bounded_slot : Slot → BoundedRoutine
bounded_slot s = record { function = s.function; body = bounded_statement s.body }

-- what a slotted program is without its pointers
abbrev pub slotted_program : Slotted → SlottedProgram
slotted_program s = record { main = bounded_statement s.main; slots = map bounded_slot s.slots }
