-- Inner: an expression of a tree as structured code, with the expression that has its value right after it.
use Rattle.std.specs.Prelude.{◌≡◌, ℕ, zero, suc, ◌+◌, ◌<◌, ◌≤◌, Bool, true, false, List, [], ◌∷◌, length, slice_index, slice_index_or, Option, Some, None, if◌then◌else◌, ⊤}
use Rattle.lz_base.specs.declared.operator.Unary.{Unary}
use Rattle.lz_base.specs.declared.operator.Unary.TheVariants as unaries
use Rattle.lz_base.specs.declared.operator.Binary.{Binary}
use Rattle.lz_base.specs.declared.operator.Binary.TheVariants as ops
use Rattle.lz_base.specs.declared.word.IntType.{IntType}
use Rattle.lz_base.specs.declared.word.IntType.TheVariants.{Int, Unsigned}
use Rattle.lz_base.specs.declared.word.BreakKind.{BreakKind}
use Rattle.lz_base.specs.declared.word.BreakKind.TheVariants as kinds
use Rattle.lz_tree.specs.declared.scoped.KnownName.{KnownName}
use Rattle.lz_tree.specs.declared.scoped.KnownName.TheVariants as known
use Rattle.lz_tree.specs.declared.scoped.Object.{Object}
use Rattle.lz_tree.specs.declared.scoped.Object.TheVariants.{Local, Cell, Mutex, Cond, Handle, Routine, Known}
use Rattle.lz_tree.specs.ScopedTrees.{ScopedExpression, constant, null, text, object, address, paren, unary, cast, binary, choose, assign, step, call, Lvalue, lvalue, ScopedIndex, whole, element, ScopedExpressions, none, and}
use Rattle.lz_flat.specs.Programs.{Expression, word, Location}
use Rattle.lz_flat.specs.Programs as flat
use Rattle.lz_flat.specs.Instructions.{value}
use Rattle.lz_model.specs.CodeTraces.{Locals, kind_of, kind_or, kind_of_object, len_of, first_of, object_of, is_object_argument, way_of, left_kind, is_division}
use Rattle.lz_sync.specs.Operations.{Operation, reads, writes, resets, locks, unlocks, parks, wakes, signals, broadcasts, creates, joins, holds_on, holds_off}
use Rattle.lz_sync.specs.Groups.{fixed, no}
use Rattle.lz_code.specs.Structured.{Own, puts, asks, guards, Code, nothing, own, deed, seq, branch, exit}
use Rattle.lz_bound.specs.BoundedTraces.{Leaving, through}
use Rattle.lz_split.specs.Deeds.{Deed, operates, inputs, tests, supposes}

-- Where a thread's own words stand: those of its thread objects, and after them those of its locals.
pub record OwnWords : Type 0 where
  pub handles_from : ℕ
  pub handles : ℕ
  pub locals_from : ℕ
  pub locals : ℕ

-- the words after those of the locals hold values for a while
abbrev pub own_end : OwnWords → ℕ
own_end w = w.locals_from + w.locals

-- The first unused word, and the slot of the next create site.
pub record Free : Type 0 where
  pub word : ℕ
  pub slot : ℕ

-- What an expression is lowered to: its code, the expression that has its value right after it, and what is unused then.
pub record Lowered : Type 0 where
  pub code : Code Deed
  pub answer : Expression
  pub next : Free

-- what is lowered, from what is unused
abbrev pub Piece : Type 0
Piece = Free → Lowered

-- ---- how pieces are put together

-- one word more is used
abbrev pub taken : Free → Free
taken free = record { word = suc free.word; slot = free.slot }

-- a value that stands already
abbrev pub given : Expression → Piece
given x free = record { code = nothing; answer = x; next = free }

-- one instruction or deed that has no value
abbrev pub acts : Code Deed → Piece
acts code free = record { code = code; answer = flat.constant 0; next = free }

-- nothing more comes
abbrev pub stops : Piece
stops free = acts (own true (guards (flat.constant 0))) free

-- one after the other
abbrev pub binds : Piece → (Expression → Piece) → Piece
binds p q free = record {
  code = seq (p free).code (q (p free).answer (p free).next).code;
  answer = (q (p free).answer (p free).next).answer;
  next = (q (p free).answer (p free).next).next;
}

-- with another value
abbrev pub maps : (Expression → Expression) → Piece → Piece
maps f p free = record { code = (p free).code; answer = f (p free).answer; next = (p free).next }

-- the value is kept in a word
abbrev pub saved : Expression → Piece
saved x free = record { code = own false (puts (fixed free.word) x); answer = word free.word; next = taken free }

-- what later code does not change
abbrev pub kept : Piece → Piece
kept p = binds p saved

-- a deed that leaves a value in a word
abbrev pub found : (Location → Deed) → Piece
found d free = record { code = deed (d (fixed free.word)); answer = word free.word; next = taken free }

-- 0 or 1 for a value
abbrev pub twice_no : Expression → Expression
twice_no x = no (no x)

-- it is written to the word
abbrev pub sets_word : ℕ → (Expression → Expression) → Lowered → Code Deed
sets_word t f l = seq l.code (own false (puts (fixed t) (f l.answer)))

-- The first decides by its truth whether it is the value or the second is. Its truth stands in a word.
abbrev pub looks_at : Bool → Piece → Piece → Piece
looks_at go l r free = by (l free) (r (taken (l free).next))
  where
    pick : Bool → Code Deed → ℕ → Code Deed
    pick true code t = branch (word t) code nothing
    pick false code t = branch (word t) nothing code

    by : Lowered → Lowered → Lowered
    by a b = record {
      code = seq a.code (seq (own false (puts (fixed a.next.word) (twice_no a.answer))) (pick go (sets_word a.next.word twice_no b) a.next.word));
      answer = word a.next.word;
      next = b.next;
    }

-- the one or the other by a test
abbrev pub decided : Piece → Piece → Piece → Piece
decided c p q free = by (c free) (p (taken (c free).next)) (q (p (taken (c free).next)).next)
  where
    by : Lowered → Lowered → Lowered → Lowered
    by test a b = record {
      code = seq test.code (branch test.answer (sets_word test.next.word (λ x. x) a) (sets_word test.next.word (λ x. x) b));
      answer = word test.next.word;
      next = b.next;
    }

-- ---- objects

-- the spot of an object from a word on, and of an element by its index
abbrev pub spot : ℕ → ℕ → ScopedIndex → Expression → Location
spot first len whole i = fixed first
spot first len (element index) i = record { first = first; len = len; index = i }

-- the word or the element as an expression
abbrev pub looked : ℕ → ℕ → ScopedIndex → Expression → Expression
looked first len whole i = word first
looked first len (element index) i = flat.element first len i

-- the index is below the length
abbrev pub below : Expression → ℕ → Expression
below i len = flat.binary ops.Lt Unsigned i (flat.constant len)

-- the check of an index, or where it was tested before, nothing comes after an index out of range
abbrev pub checked_code : ℕ → Bool → Expression → ℕ → Code Deed
checked_code line true i len = own true (guards (below i len))
checked_code line false i len = deed (tests line kinds.Bounds (below i len))

abbrev pub checks_place : ℕ → Object → ScopedIndex → Bool → Expression → Piece
checks_place line meant whole checked i = acts nothing
checks_place line meant (element index) checked i = acts (checked_code line checked i (len_of meant))

-- a read of an object at an index that was checked
abbrev pub reads_at : OwnWords → ℕ → Object → ScopedIndex → Expression → Piece
reads_at w line (Local first len kind) index i = given (looked (w.locals_from + first) len index i)
reads_at w line (Cell first len kind) index i = found (λ to. operates line (reads (spot first len index i) to))
reads_at w line (Handle first len) index i = given (looked (w.handles_from + first) len index i)
reads_at w line (Routine function) index i = given (flat.constant function)
reads_at w line (Mutex first len) index i = stops
reads_at w line (Cond first len) index i = stops
reads_at w line (Known name) index i = stops

-- a write of a value to an object at an index that was checked; the value is that of the object
abbrev pub writes_at : OwnWords → ℕ → Object → ScopedIndex → Expression → Expression → Piece
writes_at w line (Local first len kind) whole i v = maps (λ x. word (w.locals_from + first)) (acts (own true (puts (fixed (w.locals_from + first)) v)))
writes_at w line (Local first len kind) (element index) i v = maps (λ x. v) (acts (own true (puts (spot (w.locals_from + first) len (element index) i) v)))
writes_at w line (Cell first len kind) index i v = maps (λ x. v) (acts (deed (operates line (writes (spot first len index i) v))))
writes_at w line (Handle first len) index i v = stops
writes_at w line (Routine function) index i v = stops
writes_at w line (Mutex first len) index i v = stops
writes_at w line (Cond first len) index i v = stops
writes_at w line (Known name) index i v = stops

-- a value that is to be written: one for a local of one word need not be kept
abbrev pub to_write : Object → ScopedIndex → Piece → Piece
to_write (Local first len kind) whole p = p
to_write meant index p = kept p

-- ---- operators

-- the check of a divisor
abbrev pub checks_zero : ℕ → Bool → Expression → Piece
checks_zero line true b = acts (deed (tests line kinds.DivZero b))
checks_zero line false b = acts nothing

-- an operator with two operands, which does not look at their truth
abbrev pub computed : ℕ → Bool → (Expression → Expression → Expression) → Piece → Piece → Piece
computed line true f l r = binds (kept l) λ a. binds (kept r) λ b. binds (acts (deed (tests line kinds.DivZero b))) λ _. given (f a b)
computed line false f l r = binds (kept l) λ a. binds r λ b. given (f a b)

-- an operator at two kinds
abbrev pub operator : Binary → IntType → IntType → Expression → Expression → Expression
operator op left right a b = flat.binary op (left_kind (way_of op) left right) a b

abbrev pub two_operands : ℕ → Binary → IntType → IntType → Piece → Piece → Piece
two_operands line ops.Both left right l r = looks_at true l r
two_operands line ops.Either left right l r = looks_at false l r
two_operands line op left right l r = computed line (is_division op) (operator op left right) l r

-- ---- expressions

abbrev mutual
  pub lowered : OwnWords → ScopedExpression → Piece
  lowered w (constant line v form kind) = given (flat.constant v)
  lowered w (null line kind) = given (flat.constant 0)
  lowered w (text line kind) = given (flat.constant 0)
  lowered w (object (lvalue line meant index checked) kind) = binds (place w (lvalue line meant index checked)) λ i. reads_at w line meant index i
  lowered w (address line of kind) = place w of
  lowered w (paren line inner kind) = lowered w inner
  lowered w (unary line op of kind) = maps (flat.unary op (kind_or kind)) (lowered w of)
  lowered w (cast line to of kind) = lowered w of
  lowered w (binary line op left right kind) = two_operands line op (kind_of left) (kind_of right) (lowered w left) (lowered w right)
  lowered w (choose line test first second kind) = decided (lowered w test) (lowered w first) (lowered w second)
  lowered w (assign line None (lvalue at meant index checked) e kind) =
      binds (index_of w index) λ i. binds (to_write meant index (lowered w e)) λ v. binds (checks_place at meant index checked i) λ _. writes_at w line meant index i v
  lowered w (assign line (Some op) (lvalue at meant index checked) e kind) =
      binds (place w (lvalue at meant index checked)) λ i. binds (kept (reads_at w line meant index i)) λ old. binds (kept (lowered w e)) λ b.
      binds (checks_zero line (is_division op) b) λ _. binds (saved (operator op (kind_of_object meant) (kind_of e) old b)) λ v. writes_at w line meant index i v
  lowered w (step line (lvalue at meant index checked) up before kind) =
      binds (place w (lvalue at meant index checked)) λ i. binds (kept (reads_at w line meant index i)) λ old.
      binds (saved (operator (if up then ops.Add else ops.Sub) (kind_of_object meant) Int old (flat.constant 1))) λ v.
      maps (λ x. if before then v else old) (writes_at w line meant index i v)
  lowered w (call line callee args kind) = stops

  -- the place of an object: its index, kept, and checked
  pub place : OwnWords → Lvalue → Piece
  place w (lvalue line meant index checked) = binds (index_of w index) λ i. maps (λ x. i) (checks_place line meant index checked i)

  -- an index, kept
  pub index_of : OwnWords → ScopedIndex → Piece
  index_of w whole = given (flat.constant 0)
  index_of w (element index) = kept (lowered w index)
