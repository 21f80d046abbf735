-- Trusted: traces of code, the lists of actions that it may do, in the order of C99 6.5 and 6.8 with operands and arguments from left to right.
-- A trace knows nothing of the shared state: a read may find any word.
use Rattle.std.specs.Prelude.{◌≡◌, ℕ, zero, suc, ◌+◌, ◌<◌, ◌==◌, Bool, true, false, nat_lt, List, [], ◌∷◌, Option, Some, None, slice_index, if◌then◌else◌, ⊤}
use Rattle.lz_base.specs.Words.{value_bound, is_true, truth, unary_value, binary_value, converted}
use Rattle.lz_base.specs.declared.word.BreakKind.{BreakKind}
use Rattle.lz_base.specs.declared.word.BreakKind.TheVariants as kinds
use Rattle.lz_base.specs.declared.word.IntType.{IntType}
use Rattle.lz_base.specs.declared.word.IntType.TheVariants.{Int, Unsigned}
use Rattle.lz_base.specs.declared.operator.Unary.{Unary}
use Rattle.lz_base.specs.declared.operator.Unary.TheVariants as unaries
use Rattle.lz_base.specs.declared.operator.Binary.{Binary}
use Rattle.lz_base.specs.declared.operator.Binary.TheVariants as ops
use Rattle.lz_tree.specs.declared.scoped.KnownName.{KnownName}
use Rattle.lz_tree.specs.declared.scoped.KnownName.TheVariants as known
use Rattle.lz_tree.specs.declared.scoped.Object.{Object}
use Rattle.lz_tree.specs.declared.scoped.Object.TheVariants.{Local, Cell, Mutex, Cond, Handle, Routine, Known}
use Rattle.lz_tree.specs.ScopedTrees.{ScopedExpression, constant, null, text, object, address, paren, unary, cast, binary, choose, assign, step, call, Lvalue, lvalue, ScopedIndex, whole, element, ScopedExpressions, none, and, ScopedInitializer, nothing, single, listed, ScopedInitDeclarator, ScopedStatement, empty, eval, block, declare, when, while, do_while, for, break, continue, return, label, ScopedBranch, absent, branch, ScopedStatements, nil, cons}
pub use Rattle.lz_tree.specs.Kinds.{len_of, kind_of_object, kind_or, kind_of, kinds_of, common_kind, Way, looks, shifts, compares, computes, way_of, left_kind, right_kind, value_kind}
use Rattle.lz_model.specs.declared.actions.Action.{Action}
use Rattle.lz_model.specs.declared.actions.Action.TheVariants.{Loc, Input, Check, Assume, Rd, Wr, Reset, Lock, Unlock, Park, Wake, Signal, Broadcast, Create, Join, HoldOn, HoldOff}
use Rattle.lz_model.specs.Actions.{Act}
use Rattle.lz_model.specs.Behaviours.{Outcome, done, exits, cut, Behaviour, ends_with, halts, leaves, updates, stays, tells, chooses, ◌and_then◌, ◌gives◌, picks}

-- ---- local values

-- The values of a call's locals, by their numbers, and those of the thread objects, which belong to thread 0 and
-- are kept across calls.
pub record Locals : Type 0 where
  pub frame : ℕ → ℕ
  pub handles : ℕ → ℕ

abbrev pub put : ℕ → ℕ → (ℕ → ℕ) → ℕ → ℕ
put i value values k = if k == i then value else values k

abbrev pub set_local : ℕ → ℕ → Locals → Locals
set_local i value locals = record { frame = put i value locals.frame; handles = locals.handles }

abbrev pub set_handle : ℕ → ℕ → Locals → Locals
set_handle i value locals = record { frame = locals.frame; handles = put i value locals.handles }

-- the locals of a call: its arguments, and 0 in all others
abbrev pub frame_of : List ℕ → ℕ → ℕ
frame_of arguments i = slice_index arguments i

abbrev pub entered : List ℕ → Locals → Locals
entered arguments locals = record { frame = frame_of arguments; handles = locals.handles }

abbrev pub came_back : Locals → Locals → Locals
came_back locals inner = record { frame = locals.frame; handles = inner.handles }

-- code of a callee, which has local values of its own
abbrev pub InFrame : {A : Type 0} → List ℕ → Behaviour Locals A → Behaviour Locals A
InFrame arguments body before acts (done after v) =
    (inner : Locals) × body (entered arguments before) acts (done inner v) × (after ≡ came_back before inner)
InFrame arguments body before acts (exits w) = body (entered arguments before) acts (exits w)
InFrame arguments body before acts cut = body (entered arguments before) acts cut

pub record in_frame {A : Type 0} (arguments : List ℕ) (body : Behaviour Locals A) (before : Locals) (acts : List Act) (outcome : Outcome Locals A) : Type 0 where
  pub is : InFrame arguments body before acts outcome

-- What the calls of functions of the file do: the kinds of each function's parameters, and what it does from its
-- own local values, with the value that it gives.
pub record Calls : Type 1 where
  pub params : ℕ → List IntType
  pub does : ℕ → Behaviour Locals ℕ

-- no call is there to be done
abbrev pub no_calls : Calls
no_calls = record { params = λ function. []; does = λ function. halts }

-- ---- single actions

abbrev pub at : ℕ → Action → Act
at line action = record { action = action; line = line }

-- an action that leaves the local values as they are
abbrev pub does : {A : Type 0} → ℕ → Action → A → Behaviour Locals A
does line action value = updates (at line action) stays value

-- the action on local values
abbrev pub loc : {A : Type 0} → ℕ → (Locals → Locals) → A → Behaviour Locals A
loc line change value = updates (at line Loc) change value

-- a check: behind one that breaks, nothing comes
abbrev pub checks : ℕ → ℕ → BreakKind → Behaviour Locals ℕ
checks line zero kind = does line (Check zero kind) zero and_then λ _. halts
checks line (suc value) kind = does line (Check (suc value) kind) zero

-- an assumption: behind one that fails, nothing comes
abbrev pub assumes : ℕ → ℕ → Behaviour Locals ℕ
assumes line zero = does line (Assume zero) zero and_then λ _. halts
assumes line (suc value) = does line (Assume (suc value)) zero

abbrev pub IsWord : ℕ → Type 0
IsWord value = value < value_bound

-- a value of a kind is a word
abbrev pub IsValueOf : IntType → ℕ → Type 0
IsValueOf kind value = value < value_bound

abbrev pub IsAny : {A : Type 0} → A → Type 0
IsAny value = ⊤

-- an input, which has any value of its kind
abbrev pub inputs : ℕ → IntType → Behaviour Locals ℕ
inputs line kind = chooses (IsValueOf kind) λ v. does line (Input v) v

-- ---- objects and their elements

abbrev pub first_of : Object → ℕ
first_of (Local first len kind) = first
first_of (Cell first len kind) = first
first_of (Mutex first len) = first
first_of (Cond first len) = first
first_of (Handle first len) = first
first_of (Routine function) = function
first_of (Known name) = 0

-- a read of the element at an index: of a local or a thread object by Loc, of a cell by Rd, which finds any word
abbrev pub read_at : ℕ → Object → ℕ → Behaviour Locals ℕ
read_at line (Local first len kind) i = tells (at line Loc) λ locals. locals.frame (first + i)
read_at line (Cell first len kind) i = chooses IsWord λ v. does line (Rd (first + i) v) v
read_at line (Handle first len) i = tells (at line Loc) λ locals. locals.handles (first + i)
read_at line (Routine function) i = ends_with function
read_at line (Mutex first len) i = halts
read_at line (Cond first len) i = halts
read_at line (Known name) i = halts

-- a write of the element at an index, whose value is the value written
abbrev pub write_at : ℕ → Object → ℕ → ℕ → Behaviour Locals ℕ
write_at line (Local first len kind) i v = loc line (set_local (first + i) v) v
write_at line (Cell first len kind) i v = does line (Wr (first + i) v) v
write_at line (Handle first len) i v = halts
write_at line (Routine function) i v = halts
write_at line (Mutex first len) i v = halts
write_at line (Cond first len) i v = halts
write_at line (Known name) i v = halts

-- in range, or nothing more comes
abbrev pub needs : Bool → Behaviour Locals ℕ
needs true = ends_with zero
needs false = halts

-- the check of an index in range, or of one that was tested before
abbrev pub bounds : ℕ → Bool → Bool → Behaviour Locals ℕ
bounds line true fits = needs fits
bounds line false fits = checks line (truth fits) kinds.Bounds

-- the check of the index of an object, where it has one: the index is a word below the length
abbrev pub checks_index : ℕ → Object → ScopedIndex → Bool → ℕ → Behaviour Locals ℕ
checks_index line meant whole checked i = ends_with zero
checks_index line meant (element index) checked i = bounds line checked (nat_lt i (len_of meant))

-- ---- operators at two kinds (C99 6.3.1.8)

-- the right operand as the operator takes it
abbrev pub right_operand : Binary → IntType → IntType → ℕ → ℕ
right_operand op left right b = converted b right (right_kind (way_of op) left right)

-- the value of an operator at two operands of these kinds
abbrev pub operated : Binary → IntType → IntType → ℕ → ℕ → ℕ
operated op left right a b =
    binary_value op (converted a left (left_kind (way_of op) left right)) (right_operand op left right b) (left_kind (way_of op) left right)

-- whether an operator divides
abbrev pub is_division : Binary → Bool
is_division ops.Mul = false
is_division ops.Div = true
is_division ops.Rem = true
is_division ops.Add = false
is_division ops.Sub = false
is_division ops.Shl = false
is_division ops.Shr = false
is_division ops.Lt = false
is_division ops.Gt = false
is_division ops.Le = false
is_division ops.Ge = false
is_division ops.Eq = false
is_division ops.Ne = false
is_division ops.BitAnd = false
is_division ops.BitXor = false
is_division ops.BitOr = false
is_division ops.Both = false
is_division ops.Either = false

-- the check of the divisor, behind both operands of an operator that divides
abbrev pub checks_divisor : ℕ → Binary → ℕ → Behaviour Locals ℕ
checks_divisor line op divisor = picks (is_division op) (checks line divisor kinds.DivZero) (ends_with zero)

-- a test, the Loc of the branch on it, and what follows
abbrev pub decides : {A : Type 0} → ℕ → Behaviour Locals ℕ → (Bool → Behaviour Locals A) → Behaviour Locals A
decides line test next = test and_then λ v. loc line stays (is_true v) and_then next

-- behind the first operand: the second, where it is needed, and the value
abbrev pub behind_first : ℕ → Binary → IntType → IntType → Behaviour Locals ℕ → ℕ → Behaviour Locals ℕ
behind_first line ops.Both left right second a =
    loc line stays zero and_then λ _. picks (is_true a) (second gives λ b. truth (is_true b)) (ends_with (truth false))
behind_first line ops.Either left right second a =
    loc line stays zero and_then λ _. picks (is_true a) (ends_with (truth true)) (second gives λ b. truth (is_true b))
behind_first line op left right second a =
    second and_then λ b. checks_divisor line op (right_operand op left right b) gives λ _. operated op left right a b

-- the value of an operand in the kind that a unary operator takes
abbrev pub unary_operated : Unary → IntType → IntType → ℕ → ℕ
unary_operated unaries.Plus from kind a = unary_value unaries.Plus (converted a from kind) kind
unary_operated unaries.Minus from kind a = unary_value unaries.Minus (converted a from kind) kind
unary_operated unaries.Invert from kind a = unary_value unaries.Invert (converted a from kind) kind
unary_operated unaries.Not from kind a = unary_value unaries.Not a from

-- the value behind an assignment with an operator: of the object's old value and the operand, in the object's kind
abbrev pub assigned : Binary → IntType → IntType → ℕ → ℕ → ℕ
assigned op kind right old b = converted (operated op kind right old b) (value_kind (way_of op) kind right) kind

-- the value behind `++` or `--` (C99 6.5.2.4): 1 is added or taken away, as by `+= 1` and `-= 1`
abbrev pub stepped : Bool → IntType → ℕ → ℕ
stepped up kind old = assigned (if up then ops.Add else ops.Sub) kind Int old 1

-- ---- calls of known names

-- whether an object is one for threads
abbrev pub is_handle : Object → Bool
is_handle (Local first len kind) = false
is_handle (Cell first len kind) = false
is_handle (Mutex first len) = false
is_handle (Cond first len) = false
is_handle (Handle first len) = true
is_handle (Routine function) = false
is_handle (Known name) = false

abbrev pub object_of : Lvalue → Object
object_of (lvalue line meant index checked) = meant

-- whether an argument is an object that is handed to a POSIX call: `& object`, or a thread object
abbrev pub is_object_argument : ScopedExpression → Bool
is_object_argument (constant line value form kind) = false
is_object_argument (null line kind) = false
is_object_argument (text line kind) = false
is_object_argument (object of kind) = is_handle (object_of of)
is_object_argument (address line of kind) = true
is_object_argument (paren line inner kind) = false
is_object_argument (unary line op of kind) = false
is_object_argument (cast line to of kind) = false
is_object_argument (binary line op left right kind) = false
is_object_argument (choose line test first second kind) = false
is_object_argument (assign line op to value kind) = false
is_object_argument (step line of up before kind) = false
is_object_argument (call line callee args kind) = false

-- What a known name does with its arguments, which are evaluated: the numbers of the objects that are handed to
-- it, and its other arguments. Its value is 0 where it has no other.
abbrev pub known_trace : ℕ → KnownName → List ℕ → List ℕ → Behaviour Locals ℕ
known_trace line known.Assert objects values = checks line (slice_index values 0) kinds.Assert
known_trace line known.Assume objects values = assumes line (slice_index values 0)
known_trace line known.NondetInt objects values = inputs line Int
known_trace line known.NondetUint objects values = inputs line Unsigned
known_trace line known.Error objects values = checks line 0 kinds.Reached
known_trace line known.ReachError objects values = checks line 0 kinds.Reached
known_trace line known.Abort objects values = assumes line 0
known_trace line known.AtomicBegin objects values = does line HoldOn 0
known_trace line known.AtomicEnd objects values = does line HoldOff 0
-- the attribute, the routine and its argument; the number of the new thread is kept in the object
known_trace line known.Create objects values =
    chooses IsAny λ d. does line (Create d (slice_index values 1) (slice_index values 2)) zero and_then λ _.
    loc line (set_handle (slice_index objects 0) d) 0
-- the number of the thread is read from the object
known_trace line known.Join objects values =
    tells (at line Loc) (λ locals. locals.handles (slice_index objects 0)) and_then λ d. does line (Join d) 0
known_trace line known.Exit objects values = leaves false
known_trace line known.MutexInit objects values = does line (Reset (slice_index objects 0)) 0
known_trace line known.MutexDestroy objects values = ends_with 0
known_trace line known.MutexLock objects values = does line (Lock (slice_index objects 0)) 0
known_trace line known.MutexUnlock objects values = does line (Unlock (slice_index objects 0)) 0
known_trace line known.CondInit objects values = ends_with 0
known_trace line known.CondDestroy objects values = ends_with 0
known_trace line known.CondWait objects values =
    does line (Park (slice_index objects 0) (slice_index objects 1)) zero and_then λ _.
    does line (Wake (slice_index objects 0) (slice_index objects 1)) 0
known_trace line known.CondSignal objects values = chooses IsAny λ woken. does line (Signal (slice_index objects 0) woken) 0
known_trace line known.CondBroadcast objects values = does line (Broadcast (slice_index objects 0)) 0
known_trace line known.Printf objects values = ends_with 0

-- ---- expressions (C99 6.5)

-- arguments as they are passed: each in the kind of its parameter (C99 6.5.2.2)
abbrev pub passed : List IntType → List IntType → List ℕ → List ℕ
passed (from ∷ froms) (to ∷ tos) (v ∷ vs) = converted v from to ∷ passed froms tos vs
passed froms tos vs = vs

-- one Loc for each parameter
abbrev pub locs : ℕ → List ℕ → Behaviour Locals ℕ
locs line [] = ends_with zero
locs line (argument ∷ arguments) = loc line stays zero and_then λ _. locs line arguments

abbrev mutual
  -- what an expression may do, with the value that it has
  pub expression_trace : Calls → ScopedExpression → Behaviour Locals ℕ
  expression_trace calls (constant line value form kind) = ends_with value
  expression_trace calls (null line kind) = ends_with 0
  expression_trace calls (text line kind) = ends_with 0
  expression_trace calls (object (lvalue line meant index checked) kind) =
      place_trace calls (lvalue line meant index checked) and_then λ i. read_at line meant i
  expression_trace calls (address line of kind) = place_trace calls of
  expression_trace calls (paren line inner kind) = expression_trace calls inner
  expression_trace calls (unary line op of kind) = expression_trace calls of gives λ a. unary_operated op (kind_of of) (kind_or kind) a
  expression_trace calls (cast line to of kind) = expression_trace calls of gives λ a. converted a (kind_of of) (kind_or kind)
  expression_trace calls (binary line op left right kind) =
      expression_trace calls left and_then λ a. behind_first line op (kind_of left) (kind_of right) (expression_trace calls right) a
  expression_trace calls (choose line test first second kind) =
      decides line (expression_trace calls test) λ yes. picks yes
      (expression_trace calls first gives λ a. converted a (kind_of first) (kind_or kind))
      (expression_trace calls second gives λ a. converted a (kind_of second) (kind_or kind))
  -- the index of the object, the value, the check of the index, the write
  expression_trace calls (assign line None (lvalue place meant index checked) value kind) =
      index_trace calls index and_then λ i. expression_trace calls value and_then λ v.
      checks_index place meant index checked i and_then λ _. write_at line meant i (converted v (kind_of value) (kind_of_object meant))
  -- the index and its check, the read, the value, the check of a divisor, the write
  expression_trace calls (assign line (Some op) (lvalue place meant index checked) value kind) =
      place_trace calls (lvalue place meant index checked) and_then λ i. read_at line meant i and_then λ old.
      expression_trace calls value and_then λ b.
      checks_divisor line op (right_operand op (kind_of_object meant) (kind_of value) b) and_then λ _.
      write_at line meant i (assigned op (kind_of_object meant) (kind_of value) old b)
  -- the index and its check, the read, the write
  expression_trace calls (step line (lvalue place meant index checked) up before kind) =
      place_trace calls (lvalue place meant index checked) and_then λ i. read_at line meant i and_then λ old.
      write_at line meant i (stepped up (kind_of_object meant) old) gives λ new. if before then new else old
  -- a function of the file: the arguments, a Loc for each, and the body in a frame of its own
  expression_trace calls (call line (Routine function) args kind) =
      arguments_trace calls args and_then λ values. locs line values and_then λ _.
      in_frame (passed (kinds_of args) (calls.params function) values) (calls.does function)
  -- a known name: the objects that are handed to it, then its other arguments, then what it does
  expression_trace calls (call line (Known name) args kind) =
      objects_trace calls args and_then λ objects. values_trace calls args and_then λ values. known_trace line name objects values
  -- nothing else is called
  expression_trace calls (call line (Local first len k) args kind) = halts
  expression_trace calls (call line (Cell first len k) args kind) = halts
  expression_trace calls (call line (Mutex first len) args kind) = halts
  expression_trace calls (call line (Cond first len) args kind) = halts
  expression_trace calls (call line (Handle first len) args kind) = halts

  -- arguments from left to right, with their values
  pub arguments_trace : Calls → ScopedExpressions → Behaviour Locals (List ℕ)
  arguments_trace calls none = ends_with []
  arguments_trace calls (and first rest) = expression_trace calls first and_then λ v. arguments_trace calls rest gives λ vs. v ∷ vs

  -- the objects that are handed to a known name, from left to right, with their numbers
  pub objects_trace : Calls → ScopedExpressions → Behaviour Locals (List ℕ)
  objects_trace calls none = ends_with []
  objects_trace calls (and first rest) =
      picks (is_object_argument first) (handed_trace calls first and_then λ o. objects_trace calls rest gives λ os. o ∷ os)
      (objects_trace calls rest)

  -- its other arguments, from left to right, with their values
  pub values_trace : Calls → ScopedExpressions → Behaviour Locals (List ℕ)
  values_trace calls none = ends_with []
  values_trace calls (and first rest) =
      picks (is_object_argument first) (values_trace calls rest)
      (expression_trace calls first and_then λ v. values_trace calls rest gives λ vs. v ∷ vs)

  -- an object that is handed to a known name, with its number: the index and its check
  pub handed_trace : Calls → ScopedExpression → Behaviour Locals ℕ
  handed_trace calls (address line of kind) = place_trace calls of gives λ i. first_of (object_of of) + i
  handed_trace calls (object of kind) = place_trace calls of gives λ i. first_of (object_of of) + i
  handed_trace calls (constant line value form kind) = halts
  handed_trace calls (null line kind) = halts
  handed_trace calls (text line kind) = halts
  handed_trace calls (paren line inner kind) = halts
  handed_trace calls (unary line op of kind) = halts
  handed_trace calls (cast line to of kind) = halts
  handed_trace calls (binary line op left right kind) = halts
  handed_trace calls (choose line test first second kind) = halts
  handed_trace calls (assign line op to value kind) = halts
  handed_trace calls (step line of up before kind) = halts
  handed_trace calls (call line callee args kind) = halts

  -- the index of an object and its check, with the value of the index
  pub place_trace : Calls → Lvalue → Behaviour Locals ℕ
  place_trace calls (lvalue line meant index checked) =
      index_trace calls index and_then λ i. checks_index line meant index checked i gives λ _. i

  -- an index, which is 0 where none is written
  pub index_trace : Calls → ScopedIndex → Behaviour Locals ℕ
  index_trace calls whole = ends_with zero
  index_trace calls (element index) = expression_trace calls index

-- ---- declarations (C99 6.7)

-- How a statement leads on: to what follows it, out of its loop, to the loop's next turn, or out of its function,
-- with a value of this kind.
pub data Flow : Type 0 where
  normal : Flow
  breaks : Flow
  continues : Flow
  returns : (kind : IntType) (value : ℕ) → Flow

-- so many elements from a number on, each any input
abbrev pub arbitrary_trace : ℕ → IntType → ℕ → ℕ → Behaviour Locals Flow
arbitrary_trace line kind i zero = ends_with normal
arbitrary_trace line kind i (suc more) =
    inputs 0 kind and_then λ v. loc line (set_local i v) normal and_then λ _. arbitrary_trace line kind (suc i) more

-- so many elements, each 0
abbrev pub zeros_trace : ℕ → ℕ → ℕ → Behaviour Locals Flow
zeros_trace line i zero = ends_with normal
zeros_trace line i (suc more) = loc line (set_local i 0) normal and_then λ _. zeros_trace line (suc i) more

-- so many elements, which have the listed values, and 0 where the list has none
abbrev pub listed_trace : Calls → ℕ → IntType → ScopedExpressions → ℕ → ℕ → Behaviour Locals Flow
listed_trace calls line kind none i more = zeros_trace line i more
listed_trace calls line kind (and first rest) i zero = ends_with normal
listed_trace calls line kind (and first rest) i (suc more) =
    expression_trace calls first and_then λ v. loc line (set_local i (converted v (kind_of first) kind)) normal and_then λ _.
    listed_trace calls line kind rest (suc i) more

-- so many thread objects, which begin without a thread
abbrev pub no_threads_trace : ℕ → ℕ → ℕ → Behaviour Locals Flow
no_threads_trace line i zero = ends_with normal
no_threads_trace line i (suc more) = loc line (set_handle i 0) normal and_then λ _. no_threads_trace line (suc i) more

-- an integer object with its initializer
abbrev pub integer_trace : Calls → ℕ → ℕ → ℕ → IntType → ScopedInitializer → Behaviour Locals Flow
integer_trace calls line first len kind nothing = arbitrary_trace line kind first len
integer_trace calls line first len kind (single value) =
    expression_trace calls value and_then λ v. loc line (set_local first (converted v (kind_of value) kind)) normal
integer_trace calls line first len kind (listed values) = listed_trace calls line kind values first len

-- one declared object; a function declares integers and thread objects alone
abbrev pub object_trace : Calls → ℕ → Object → ScopedInitializer → Behaviour Locals Flow
object_trace calls line (Local first len kind) value = integer_trace calls line first len kind value
object_trace calls line (Handle first len) value = no_threads_trace line first len
object_trace calls line (Cell first len kind) value = halts
object_trace calls line (Mutex first len) value = halts
object_trace calls line (Cond first len) value = halts
object_trace calls line (Routine function) value = halts
object_trace calls line (Known name) value = halts

abbrev pub declarators_trace : Calls → List ScopedInitDeclarator → Behaviour Locals Flow
declarators_trace calls [] = ends_with normal
declarators_trace calls (d ∷ rest) = object_trace calls d.line d.object d.first and_then λ _. declarators_trace calls rest

-- ---- statements (C99 6.8)

-- what follows a statement that led on so
abbrev pub led_on : Flow → Behaviour Locals Flow → Behaviour Locals Flow
led_on normal rest = rest
led_on breaks rest = ends_with breaks
led_on continues rest = ends_with continues
led_on (returns kind value) rest = ends_with (returns kind value)

-- what follows the body of a loop that led on so
abbrev pub turned : Flow → Behaviour Locals Flow → Behaviour Locals Flow
turned normal rest = rest
turned continues rest = rest
turned breaks rest = ends_with normal
turned (returns kind value) rest = ends_with (returns kind value)

-- The turns of `while` and `for`, of which so many may come: the test stands before each, also where none may
-- come; behind the body of a turn comes the step. Where one turn more would begin, nothing more comes.
abbrev pub turns : ((Bool → Behaviour Locals Flow) → Behaviour Locals Flow) → Behaviour Locals Flow → (Behaviour Locals Flow → Behaviour Locals Flow) → ℕ → Behaviour Locals Flow
turns test body change zero = test λ again. picks again halts (ends_with normal)
turns test body change (suc left) =
    test λ again. picks again (body and_then λ flow. turned flow (change (turns test body change left))) (ends_with normal)

-- the turns of `do`: the test stands behind each
abbrev pub do_turns : ((Bool → Behaviour Locals Flow) → Behaviour Locals Flow) → Behaviour Locals Flow → ℕ → Behaviour Locals Flow
do_turns test body zero = halts
do_turns test body (suc left) =
    body and_then λ flow. turned flow (test λ again. picks again (do_turns test body left) (ends_with normal))

-- the test of a loop and its Loc, or neither where it has none, which begins each turn
abbrev pub test_trace : Calls → ℕ → Option ScopedExpression → (Bool → Behaviour Locals Flow) → Behaviour Locals Flow
test_trace calls line None next = next true
test_trace calls line (Some test) next = decides line (expression_trace calls test) next

-- the step of a loop, and what follows
abbrev pub change_trace : Calls → Option ScopedExpression → Behaviour Locals Flow → Behaviour Locals Flow
change_trace calls None rest = rest
change_trace calls (Some change) rest = expression_trace calls change and_then λ _. rest

abbrev pub return_trace : Calls → Option ScopedExpression → Behaviour Locals Flow
return_trace calls None = ends_with (returns Int 0)
return_trace calls (Some value) = expression_trace calls value gives λ v. returns (kind_of value) v

abbrev mutual
  -- what a statement may do, where a loop has at most n turns an entry
  pub statement_trace : Calls → ℕ → ScopedStatement → Behaviour Locals Flow
  statement_trace calls n empty = ends_with normal
  statement_trace calls n (eval value) = expression_trace calls value gives λ _. normal
  statement_trace calls n (block parts) = statements_trace calls n parts
  statement_trace calls n (declare of) = declarators_trace calls of.declarators
  statement_trace calls n (when line test first second) =
      decides line (expression_trace calls test) λ yes. picks yes (statement_trace calls n first) (branch_trace calls n second)
  statement_trace calls n (while line test body) =
      turns (test_trace calls line (Some test)) (statement_trace calls n body) (change_trace calls None) n
  statement_trace calls n (do_while line body test) =
      do_turns (test_trace calls line (Some test)) (statement_trace calls n body) n
  statement_trace calls n (for line first test change body) =
      statement_trace calls n first and_then λ flow. led_on flow
      (turns (test_trace calls line test) (statement_trace calls n body) (change_trace calls change) n)
  statement_trace calls n (break line) = ends_with breaks
  statement_trace calls n (continue line) = ends_with continues
  statement_trace calls n (return line value) = return_trace calls value
  statement_trace calls n (label name of) = statement_trace calls n of

  pub branch_trace : Calls → ℕ → ScopedBranch → Behaviour Locals Flow
  branch_trace calls n absent = ends_with normal
  branch_trace calls n (branch of) = statement_trace calls n of

  -- statements one after the other
  pub statements_trace : Calls → ℕ → ScopedStatements → Behaviour Locals Flow
  statements_trace calls n nil = ends_with normal
  statements_trace calls n (cons first rest) =
      statement_trace calls n first and_then λ flow. led_on flow (statements_trace calls n rest)
