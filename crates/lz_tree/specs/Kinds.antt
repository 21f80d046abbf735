-- Trusted: the length and the kind of an object, the kind of an expression's value, and the kinds in which operators take their operands (C99 6.3.1.8, with two kinds).
use Rattle.std.specs.Prelude.{ℕ, List, [], ◌∷◌, Option, Some, None}
use Rattle.lz_base.specs.declared.word.IntType.{IntType}
use Rattle.lz_base.specs.declared.word.IntType.TheVariants.{Int, Unsigned}
use Rattle.lz_base.specs.declared.operator.Binary.{Binary}
use Rattle.lz_base.specs.declared.operator.Binary.TheVariants as ops
use Rattle.lz_tree.specs.declared.scoped.Object.{Object}
use Rattle.lz_tree.specs.declared.scoped.Object.TheVariants.{Local, Cell, Mutex, Cond, Handle, Routine, Known}
use Rattle.lz_tree.specs.ScopedTrees.{ScopedExpression, constant, null, text, object, address, paren, unary, cast, binary, choose, assign, step, call, ScopedExpressions, none, and}

-- ---- objects

-- the number of elements of an object
abbrev pub len_of : Object → ℕ
len_of (Local first len kind) = len
len_of (Cell first len kind) = len
len_of (Mutex first len) = len
len_of (Cond first len) = len
len_of (Handle first len) = len
len_of (Routine function) = 0
len_of (Known name) = 0

-- the kind of an integer object
abbrev pub kind_of_object : Object → IntType
kind_of_object (Local first len kind) = kind
kind_of_object (Cell first len kind) = kind
kind_of_object (Mutex first len) = Int
kind_of_object (Cond first len) = Int
kind_of_object (Handle first len) = Int
kind_of_object (Routine function) = Int
kind_of_object (Known name) = Int

-- ---- expressions and operators

abbrev pub kind_or : Option IntType → IntType
kind_or None = Int
kind_or (Some kind) = kind

-- the kind of an expression's value
abbrev pub kind_of : ScopedExpression → IntType
kind_of (constant line value form kind) = kind_or kind
kind_of (null line kind) = kind_or kind
kind_of (text line kind) = kind_or kind
kind_of (object of kind) = kind_or kind
kind_of (address line of kind) = kind_or kind
kind_of (paren line inner kind) = kind_or kind
kind_of (unary line op of kind) = kind_or kind
kind_of (cast line to of kind) = kind_or kind
kind_of (binary line op left right kind) = kind_or kind
kind_of (choose line test first second kind) = kind_or kind
kind_of (assign line op to value kind) = kind_or kind
kind_of (step line of up before kind) = kind_or kind
kind_of (call line callee args kind) = kind_or kind

abbrev pub kinds_of : ScopedExpressions → List IntType
kinds_of none = []
kinds_of (and first rest) = kind_of first ∷ kinds_of rest

-- the common kind of two operands
abbrev pub common_kind : IntType → IntType → IntType
common_kind Int Int = Int
common_kind Int Unsigned = Unsigned
common_kind Unsigned Int = Unsigned
common_kind Unsigned Unsigned = Unsigned

-- how an operator takes its operands: it looks at their truth; it shifts, and has the kind of its left operand;
-- it compares, in the common kind, and gives `int`; or it computes in the common kind
pub data Way : Type 0 where
  looks : Way
  shifts : Way
  compares : Way
  computes : Way

abbrev pub way_of : Binary → Way
way_of ops.Mul = computes
way_of ops.Div = computes
way_of ops.Rem = computes
way_of ops.Add = computes
way_of ops.Sub = computes
way_of ops.Shl = shifts
way_of ops.Shr = shifts
way_of ops.Lt = compares
way_of ops.Gt = compares
way_of ops.Le = compares
way_of ops.Ge = compares
way_of ops.Eq = compares
way_of ops.Ne = compares
way_of ops.BitAnd = computes
way_of ops.BitXor = computes
way_of ops.BitOr = computes
way_of ops.Both = looks
way_of ops.Either = looks

-- the kind in which an operator takes its left operand, and its right one, from their kinds
abbrev pub left_kind : Way → IntType → IntType → IntType
left_kind looks left right = left
left_kind shifts left right = left
left_kind compares left right = common_kind left right
left_kind computes left right = common_kind left right

abbrev pub right_kind : Way → IntType → IntType → IntType
right_kind looks left right = right
right_kind shifts left right = right
right_kind compares left right = common_kind left right
right_kind computes left right = common_kind left right

-- the kind of its value
abbrev pub value_kind : Way → IntType → IntType → IntType
value_kind looks left right = Int
value_kind shifts left right = left
value_kind compares left right = Int
value_kind computes left right = common_kind left right
