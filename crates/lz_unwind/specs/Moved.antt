-- Inner: an expression with no call of a function of the file, its locals moved.
use Rattle.std.specs.Prelude.{ℕ, ◌+◌, ◌||◌, Bool, true, false}
use Rattle.lz_tree.specs.declared.scoped.Object.{Object}
use Rattle.lz_tree.specs.declared.scoped.Object.TheVariants.{Local, Cell, Mutex, Cond, Handle, Routine, Known}
use Rattle.lz_tree.specs.ScopedTrees.{ScopedExpression, constant, null, text, object, address, paren, unary, cast, binary, choose, assign, step, call, lvalue, ScopedIndex, whole, element, ScopedExpressions, none, and}

-- the object, if it is a local so many numbers on
abbrev pub moved : ℕ → Object → Object
moved o (Local first len kind) = Local (o + first) len kind
moved o (Cell first len kind) = Cell first len kind
moved o (Mutex first len) = Mutex first len
moved o (Cond first len) = Cond first len
moved o (Handle first len) = Handle first len
moved o (Routine function) = Routine function
moved o (Known name) = Known name

abbrev mutual
  -- the expression, whose locals are so many numbers on
  pub shift : ℕ → ScopedExpression → ScopedExpression
  shift o (constant line value form kind) = constant line value form kind
  shift o (null line kind) = null line kind
  shift o (text line kind) = text line kind
  shift o (object (lvalue line meant index checked) kind) = object (lvalue line (moved o meant) (shift_index o index) checked) kind
  shift o (address line (lvalue at meant index checked) kind) = address line (lvalue at (moved o meant) (shift_index o index) checked) kind
  shift o (paren line e kind) = paren line (shift o e) kind
  shift o (unary line op e kind) = unary line op (shift o e) kind
  shift o (cast line to e kind) = cast line to (shift o e) kind
  shift o (binary line op a b kind) = binary line op (shift o a) (shift o b) kind
  shift o (choose line a b c kind) = choose line (shift o a) (shift o b) (shift o c) kind
  shift o (assign line op (lvalue at meant index checked) e kind) = assign line op (lvalue at (moved o meant) (shift_index o index) checked) (shift o e) kind
  shift o (step line (lvalue at meant index checked) up before kind) = step line (lvalue at (moved o meant) (shift_index o index) checked) up before kind
  shift o (call line callee args kind) = call line callee (shift_all o args) kind

  -- that of an index
  pub shift_index : ℕ → ScopedIndex → ScopedIndex
  shift_index o whole = whole
  shift_index o (element e) = element (shift o e)

  -- those of expressions in a list
  pub shift_all : ℕ → ScopedExpressions → ScopedExpressions
  shift_all o none = none
  shift_all o (and e rest) = and (shift o e) (shift_all o rest)

-- whether it is a function of the file
abbrev pub is_routine : Object → Bool
is_routine (Routine function) = true
is_routine x = false

abbrev mutual
  -- whether it calls a function of the file
  pub has_call : ScopedExpression → Bool
  has_call (constant line value form kind) = false
  has_call (null line kind) = false
  has_call (text line kind) = false
  has_call (object (lvalue line meant index checked) kind) = index_has_call index
  has_call (address line (lvalue at meant index checked) kind) = index_has_call index
  has_call (paren line e kind) = has_call e
  has_call (unary line op e kind) = has_call e
  has_call (cast line to e kind) = has_call e
  has_call (binary line op a b kind) = has_call a || has_call b
  has_call (choose line a b c kind) = has_call a || (has_call b || has_call c)
  has_call (assign line op (lvalue at meant index checked) e kind) = index_has_call index || has_call e
  has_call (step line (lvalue at meant index checked) up before kind) = index_has_call index
  has_call (call line callee args kind) = is_routine callee || all_have_call args

  -- whether an index does
  pub index_has_call : ScopedIndex → Bool
  index_has_call whole = false
  index_has_call (element e) = has_call e

  -- whether one of a list does
  pub all_have_call : ScopedExpressions → Bool
  all_have_call none = false
  all_have_call (and e rest) = has_call e || all_have_call rest
