-- Inner: the pieces of which inlined code is put together.
use Rattle.std.specs.Prelude.{ℕ, Bool, true, false, List, [], ◌∷◌, Option, Some, None}
use Rattle.lz_base.specs.declared.word.IntType.{IntType}
use Rattle.lz_base.specs.declared.word.IntType.TheVariants.{Int}
use Rattle.lz_base.specs.declared.operator.Unary.TheVariants as unaries
use Rattle.lz_base.specs.declared.operator.Binary.{Binary}
use Rattle.lz_base.specs.declared.operator.Binary.TheVariants as ops
use Rattle.lz_tree.specs.declared.scoped.KnownName.{KnownName}
use Rattle.lz_tree.specs.declared.scoped.KnownName.TheVariants as known
use Rattle.lz_tree.specs.declared.scoped.Object.{Object}
use Rattle.lz_tree.specs.declared.scoped.Object.TheVariants.{Local}
use Rattle.lz_tree.specs.Kinds.{kind_of, len_of}
use Rattle.lz_tree.specs.ScopedTrees.{ScopedExpression, constant, object, address, unary, binary, lvalue, ScopedIndex, whole, element}
use Rattle.lz_tree.specs.WellScoped.{kind_at}
use Rattle.lz_bound.specs.BoundedTrees.{BoundedStatement, evals, nothing, seq, when, frame, leave, inside}
use Rattle.lz_unwind.specs.Moved.{moved}

-- a tree, and the least number of a local from which on it leaves all unused
pub record Made : Type 0 where
  pub tree : BoundedStatement
  pub next : ℕ

abbrev pub made : BoundedStatement → ℕ → Made
made tree next = record { tree = tree; next = next }

-- one piece after the other
abbrev pub after_ : Made → (ℕ → Made) → Made
after_ first rest = made (seq first.tree (rest first.next).tree) (rest first.next).next

-- a piece in a frame of this number
abbrev pub framed : ℕ → Made → Made
framed number piece = made (frame number piece.tree) piece.next

-- the one piece where no function of the file is called, the other where one is
abbrev pub unless_call : Bool → Made → Made → Made
unless_call false plain spread = plain
unless_call true plain spread = spread

-- The code of a function's body, in a frame of its own: its locals from the second number on, and the unused numbers
-- from the third on.
abbrev pub Inliner : Type 0
Inliner = ℕ → ℕ → ℕ → Made

-- What a call is inlined with: the code of each function's body, the number of its locals, the kinds of its parameters
-- and the kind of its result.
pub record Callees : Type 0 where
  pub inline : Inliner
  pub size : ℕ → ℕ
  pub params : ℕ → List IntType
  pub results : ℕ → IntType

-- ---- temporaries

abbrev pub local : ℕ → IntType → Object
local x kind = Local x 1 kind

-- the value of a local of one element
abbrev pub temp : ℕ → IntType → ScopedExpression
temp x kind = object (lvalue 0 (local x kind) whole false) (Some kind)

-- where the value of an expression is kept, if it has one
abbrev pub target_of : Option IntType → ℕ → IntType → Option Object
target_of None x kind = None
target_of (Some of) x kind = Some (local x kind)

-- the value of an expression, if it has one, into a local of one element
abbrev pub store : ScopedExpression → ℕ → IntType → BoundedStatement
store e x kind = evals e (target_of (kind_at e) x kind)

abbrev pub head_kind : List IntType → IntType
head_kind [] = Int
head_kind (kind ∷ rest) = kind

abbrev pub tail_kinds : List IntType → List IntType
tail_kinds [] = []
tail_kinds (kind ∷ rest) = rest

abbrev pub int_constant : ℕ → ScopedExpression
int_constant v = constant 0 v (record { decimal = true; unsigned = false; longs = 0 }) (Some Int)

-- the truth of a temporary
abbrev pub truth_of : ℕ → IntType → ScopedExpression
truth_of t kind = unary 0 unaries.Not (unary 0 unaries.Not (temp t kind) (Some Int)) (Some Int)

-- ---- indexes in temporaries

-- the index, in a temporary
abbrev pub at_temp : ScopedIndex → ℕ → ScopedIndex
at_temp whole t = whole
at_temp (element e) t = element (temp t (kind_of e))

-- the check of an index in a temporary
abbrev pub inside_of : ℕ → Object → ScopedIndex → ℕ → BoundedStatement
inside_of line meant whole t = nothing
inside_of line meant (element e) t = inside line (temp t (kind_of e)) (len_of meant)

-- an index that was checked is not checked again
abbrev pub tested : ScopedIndex → Bool
tested whole = false
tested (element e) = true

-- An object that is handed to a known name, its index in a temporary, which was checked or not.
abbrev pub at_place : ℕ → Bool → ScopedExpression → ℕ → ScopedExpression
at_place o true (address line (lvalue at meant index checked) kind) t = address line (lvalue at (moved o meant) (at_temp index t) (tested index)) kind
at_place o false (address line (lvalue at meant index checked) kind) t = address line (lvalue at (moved o meant) (at_temp index t) false) kind
at_place o true (object (lvalue at meant index checked) kind) t = object (lvalue at (moved o meant) (at_temp index t) (tested index)) kind
at_place o false (object (lvalue at meant index checked) kind) t = object (lvalue at (moved o meant) (at_temp index t) false) kind
at_place o was e t = e

-- the check of its index
abbrev pub inside_place : ScopedExpression → ℕ → BoundedStatement
inside_place (address line (lvalue at meant index checked) kind) t = inside_of at meant index t
inside_place (object (lvalue at meant index checked) kind) t = inside_of at meant index t
inside_place e t = nothing

-- ---- operators

-- both operands in temporaries, the second where it is needed
abbrev pub operands : ℕ → Binary → IntType → IntType → Option IntType → (x : ℕ) (k : IntType) (m : ℕ) → Made → (ℕ → Made) → Made
operands line ops.Both ka kb kind x k m first second =
    after_ first λ m'. made (when (temp m ka) (seq (second m').tree (store (truth_of m' kb) x k)) (store (int_constant 0) x k)) (second m').next
operands line ops.Either ka kb kind x k m first second =
    after_ first λ m'. made (when (temp m ka) (store (int_constant 1) x k) (seq (second m').tree (store (truth_of m' kb) x k))) (second m').next
operands line op ka kb kind x k m first second =
    after_ first λ m'. after_ (second m') λ m''. made (store (binary line op (temp m ka) (temp m' kb) kind) x k) m''

-- code that is out of the loop where the test fails
abbrev pub out_unless : ScopedExpression → BoundedStatement
out_unless test = when test nothing (leave 0)

-- ---- known names

-- What a known name is given: nothing that calls; one value; the value with which a thread ends; one object; two
-- objects; a thread object, a start routine and its argument; a text and values.
pub data Shape : Type 0 where
  no_value : Shape
  one_value : Shape
  an_end : Shape
  one_object : Shape
  two_objects : Shape
  creation : Shape
  printing : Shape

abbrev pub shape_of : KnownName → Shape
shape_of known.Assert = one_value
shape_of known.Assume = one_value
shape_of known.NondetInt = no_value
shape_of known.NondetUint = no_value
shape_of known.Error = no_value
shape_of known.ReachError = no_value
shape_of known.Abort = no_value
shape_of known.AtomicBegin = no_value
shape_of known.AtomicEnd = no_value
shape_of known.Create = creation
shape_of known.Join = one_object
shape_of known.Exit = an_end
shape_of known.MutexInit = one_object
shape_of known.MutexDestroy = one_object
shape_of known.MutexLock = one_object
shape_of known.MutexUnlock = one_object
shape_of known.CondInit = one_object
shape_of known.CondDestroy = one_object
shape_of known.CondWait = two_objects
shape_of known.CondSignal = one_object
shape_of known.CondBroadcast = one_object
shape_of known.Printf = printing
