-- Inner: what one node of an expression does at each stage, one step at a time.
use Rattle.std.specs.Prelude.{ℕ, zero, suc, ◌+◌, Bool, true, false, nat_lt, List, [], ◌∷◌, ◌++◌, length, Option, Some, None, slice_index, if◌then◌else◌}
use Rattle.lz_base.specs.Words.{is_true, truth, converted}
use Rattle.lz_base.specs.declared.word.BreakKind.{BreakKind}
use Rattle.lz_base.specs.declared.word.BreakKind.TheVariants as kinds
use Rattle.lz_base.specs.declared.word.IntType.{IntType}
use Rattle.lz_base.specs.declared.word.IntType.TheVariants.{Int, Unsigned}
use Rattle.lz_base.specs.declared.operator.Binary.{Binary}
use Rattle.lz_base.specs.declared.operator.Binary.TheVariants as ops
use Rattle.lz_tree.specs.declared.scoped.KnownName.{KnownName}
use Rattle.lz_tree.specs.declared.scoped.KnownName.TheVariants as known
use Rattle.lz_tree.specs.declared.scoped.Object.{Object}
use Rattle.lz_tree.specs.declared.scoped.Object.TheVariants.{Local, Cell, Mutex, Cond, Handle, Routine, Known}
use Rattle.lz_tree.specs.ScopedTrees.{ScopedExpression, constant, null, text, object, address, paren, unary, cast, binary, choose, assign, step, call, Lvalue, lvalue, ScopedIndex, whole, element, ScopedExpressions, none, and}
use Rattle.lz_model.specs.declared.actions.Action.TheVariants.{Check, Assume, Wr, Reset, Lock, Unlock, Park, Wake, Broadcast, Join, HoldOn, HoldOff}
use Rattle.lz_model.specs.CodeTraces.{Locals, set_local, set_handle, first_of, len_of, kind_of_object, kind_or, kind_of, kinds_of, right_operand, operated, is_division, unary_operated, assigned, stepped, is_handle, object_of, is_object_argument}
use Rattle.lz_turns.specs.Stages.{Stage, start, given, settled, indexed, ready, old, valued, writing, operand, first, second, taken, other, calling, argument, passing, handed, arguing, argued, woken, made, at_stage, settles, acts, reads, asks, signals, creates, calls_on, fails, refuses, quits, stops, Move, enters, goes, comes}

-- ---- the part behind which a stage comes

pub data Slot : Type 0 where
  no_slot : Slot
  index_slot : Slot
  first_slot : Slot
  second_slot : Slot
  third_slot : Slot
  argument_slot : (at : ℕ) → Slot
  handed_slot : (at : ℕ) → Slot

abbrev pub slot_of : Stage → Slot
slot_of start = no_slot
slot_of given = no_slot
slot_of (settled value) = no_slot
slot_of indexed = index_slot
slot_of (ready e) = no_slot
slot_of (old e) = no_slot
slot_of (valued at) = first_slot
slot_of (writing e value) = no_slot
slot_of (operand e before) = first_slot
slot_of first = first_slot
slot_of (second a) = second_slot
slot_of taken = second_slot
slot_of other = third_slot
slot_of (calling values) = no_slot
slot_of (argument values) = argument_slot (length values)
slot_of (passing objects at) = no_slot
slot_of (handed objects at) = handed_slot at
slot_of (arguing objects values at) = no_slot
slot_of (argued objects values at) = argument_slot at
slot_of (woken cond mutex) = no_slot
slot_of (made handle) = no_slot

abbrev pub argument_at : ScopedExpressions → ℕ → Option ScopedExpression
argument_at none at = None
argument_at (and e rest) zero = Some e
argument_at (and e rest) (suc at) = argument_at rest at

abbrev pub written_index : ScopedIndex → Option ScopedExpression
written_index whole = None
written_index (element index) = Some index

abbrev pub target_index : Lvalue → Option ScopedExpression
target_index (lvalue line meant index checked) = written_index index

abbrev pub index_of : ScopedExpression → Option ScopedExpression
index_of (constant line value form kind) = None
index_of (null line kind) = None
index_of (text line kind) = None
index_of (object of kind) = target_index of
index_of (address line of kind) = target_index of
index_of (paren line inner kind) = None
index_of (unary line op of kind) = None
index_of (cast line to of kind) = None
index_of (binary line op left right kind) = None
index_of (choose line test one two kind) = None
index_of (assign line op to value kind) = target_index to
index_of (step line of up before kind) = target_index of
index_of (call line callee args kind) = None

abbrev pub first_of_node : ScopedExpression → Option ScopedExpression
first_of_node (constant line value form kind) = None
first_of_node (null line kind) = None
first_of_node (text line kind) = None
first_of_node (object of kind) = None
first_of_node (address line of kind) = None
first_of_node (paren line inner kind) = Some inner
first_of_node (unary line op of kind) = Some of
first_of_node (cast line to of kind) = Some of
first_of_node (binary line op left right kind) = Some left
first_of_node (choose line test one two kind) = Some test
first_of_node (assign line op to value kind) = Some value
first_of_node (step line of up before kind) = None
first_of_node (call line callee args kind) = None

abbrev pub second_of_node : ScopedExpression → Option ScopedExpression
second_of_node (constant line value form kind) = None
second_of_node (null line kind) = None
second_of_node (text line kind) = None
second_of_node (object of kind) = None
second_of_node (address line of kind) = None
second_of_node (paren line inner kind) = None
second_of_node (unary line op of kind) = None
second_of_node (cast line to of kind) = None
second_of_node (binary line op left right kind) = Some right
second_of_node (choose line test one two kind) = Some one
second_of_node (assign line op to value kind) = None
second_of_node (step line of up before kind) = None
second_of_node (call line callee args kind) = None

abbrev pub third_of_node : ScopedExpression → Option ScopedExpression
third_of_node (constant line value form kind) = None
third_of_node (null line kind) = None
third_of_node (text line kind) = None
third_of_node (object of kind) = None
third_of_node (address line of kind) = None
third_of_node (paren line inner kind) = None
third_of_node (unary line op of kind) = None
third_of_node (cast line to of kind) = None
third_of_node (binary line op left right kind) = None
third_of_node (choose line test one two kind) = Some two
third_of_node (assign line op to value kind) = None
third_of_node (step line of up before kind) = None
third_of_node (call line callee args kind) = None

abbrev pub arguments_of : ScopedExpression → ScopedExpressions
arguments_of (constant line value form kind) = none
arguments_of (null line kind) = none
arguments_of (text line kind) = none
arguments_of (object of kind) = none
arguments_of (address line of kind) = none
arguments_of (paren line inner kind) = none
arguments_of (unary line op of kind) = none
arguments_of (cast line to of kind) = none
arguments_of (binary line op left right kind) = none
arguments_of (choose line test one two kind) = none
arguments_of (assign line op to value kind) = none
arguments_of (step line of up before kind) = none
arguments_of (call line callee args kind) = args

abbrev pub index_of_argument : Option ScopedExpression → Option ScopedExpression
index_of_argument None = None
index_of_argument (Some e) = index_of e

abbrev pub part_of : ScopedExpression → Slot → Option ScopedExpression
part_of e no_slot = None
part_of e index_slot = index_of e
part_of e first_slot = first_of_node e
part_of e second_slot = second_of_node e
part_of e third_slot = third_of_node e
part_of e (argument_slot at) = argument_at (arguments_of e) at
part_of e (handed_slot at) = index_of_argument (argument_at (arguments_of e) at)

-- ---- single steps

-- a check, behind which the node is at this stage
abbrev pub check_move : ℕ → ℕ → BreakKind → Stage → Move
check_move line zero kind stage = comes (fails kind line)
check_move line (suc value) kind stage = comes (acts (Check (suc value) kind) line (at_stage stage))

-- an assumption, behind which the node is at this stage
abbrev pub assume_move : ℕ → ℕ → Stage → Move
assume_move line zero stage = comes (refuses line)
assume_move line (suc value) stage = comes (acts (Assume (suc value)) line (at_stage stage))

-- in range, or nothing more
abbrev pub need_move : Bool → Stage → Move
need_move true stage = goes stage 0
need_move false stage = comes stops

abbrev pub bound_move : ℕ → Bool → Bool → Stage → Move
bound_move line true fits stage = need_move fits stage
bound_move line false fits stage = check_move line (truth fits) kinds.Bounds stage

-- the check of an index
abbrev pub index_move : Lvalue → ℕ → Stage → Move
index_move (lvalue line meant whole checked) i stage = need_move (nat_lt i 1) stage
index_move (lvalue line meant (element index) checked) i stage = bound_move line checked (nat_lt i (len_of meant)) stage

-- whether an index is one of an object: where none is written it is 0
abbrev pub index_fits : Lvalue → ℕ → Bool
index_fits (lvalue line meant whole checked) i = nat_lt i 1
index_fits (lvalue line meant (element index) checked) i = nat_lt i (len_of meant)

-- the check of a divisor
abbrev pub divide_move : Bool → ℕ → ℕ → Stage → Move
divide_move true line divisor stage = check_move line divisor kinds.DivZero stage
divide_move false line divisor stage = goes stage 0

-- a read of an element
abbrev pub read_move : Object → ℕ → ℕ → Stage → Locals → Move
read_move (Local f len kind) line e stage locals = goes stage (locals.frame e)
read_move (Cell f len kind) line e stage locals = comes (reads e line (at_stage stage))
read_move (Handle f len) line e stage locals = goes stage (locals.handles e)
read_move (Routine function) line e stage locals = goes stage function
read_move (Mutex f len) line e stage locals = comes stops
read_move (Cond f len) line e stage locals = comes stops
read_move (Known name) line e stage locals = comes stops

-- a write of an element
abbrev pub write_move : Object → ℕ → ℕ → ℕ → Stage → Move
write_move (Local f len kind) line e v stage = goes stage 0
write_move (Cell f len kind) line e v stage = comes (acts (Wr e v) line (at_stage stage))
write_move (Handle f len) line e v stage = comes stops
write_move (Routine function) line e v stage = comes stops
write_move (Mutex f len) line e v stage = comes stops
write_move (Cond f len) line e v stage = comes stops
write_move (Known name) line e v stage = comes stops

abbrev pub written : Object → ℕ → ℕ → Locals → Locals
written (Local f len kind) e v locals = set_local e v locals
written (Cell f len kind) e v locals = locals
written (Handle f len) e v locals = locals
written (Routine function) e v locals = locals
written (Mutex f len) e v locals = locals
written (Cond f len) e v locals = locals
written (Known name) e v locals = locals

-- ---- nodes

-- a target before its first action: its index, or 0 where none is written
abbrev pub target_move : ScopedIndex → Move
target_move whole = goes indexed 0
target_move (element index) = enters indexed

abbrev pub target_begins : Lvalue → Move
target_begins (lvalue line meant index checked) = target_move index

abbrev pub call_begins : Object → Move
call_begins (Routine function) = goes (calling []) 0
call_begins (Known name) = goes (passing [] 0) 0
call_begins (Local f len kind) = comes stops
call_begins (Cell f len kind) = comes stops
call_begins (Mutex f len) = comes stops
call_begins (Cond f len) = comes stops
call_begins (Handle f len) = comes stops

abbrev pub begin_move : ScopedExpression → Move
begin_move (constant line value form kind) = comes (settles value)
begin_move (null line kind) = comes (settles 0)
begin_move (text line kind) = comes (settles 0)
begin_move (object of kind) = target_begins of
begin_move (address line of kind) = target_begins of
begin_move (paren line inner kind) = enters first
begin_move (unary line op of kind) = enters first
begin_move (cast line to of kind) = enters first
begin_move (binary line op left right kind) = enters first
begin_move (choose line test one two kind) = enters first
begin_move (assign line op to value kind) = target_begins to
begin_move (step line of up before kind) = target_begins of
begin_move (call line callee args kind) = call_begins callee

-- the element at an index of a target
abbrev pub element_at : Lvalue → ℕ → ℕ
element_at (lvalue line meant index checked) i = first_of meant + i

-- an element that is read or written then
abbrev pub ready_target : Lvalue → ℕ → Move
ready_target of i = index_move of i (ready (element_at of i))

-- the element to be written, with the value that it is to have
abbrev pub valued_target : Lvalue → ℕ → ℕ → Move
valued_target of i value = index_move of i (writing (element_at of i) value)

-- `++` or `--` behind the read of its element
abbrev pub step_move : ℕ → Object → Bool → Bool → ℕ → ℕ → Move
step_move line meant up before e v =
    write_move meant line e (stepped up (kind_of_object meant) v) (settled (if before then stepped up (kind_of_object meant) v else v))

-- behind an index
abbrev pub indexed_move : ScopedExpression → ℕ → Move
indexed_move (object of kind) i = ready_target of i
indexed_move (address line of kind) i = index_move of i (settled i)
indexed_move (assign line None to value kind) i = enters (valued i)
indexed_move (assign line (Some op) to value kind) i = ready_target to i
indexed_move (step line of up before kind) i = ready_target of i
indexed_move (constant line value form kind) i = comes stops
indexed_move (null line kind) i = comes stops
indexed_move (text line kind) i = comes stops
indexed_move (paren line inner kind) i = comes stops
indexed_move (unary line op of kind) i = comes stops
indexed_move (cast line to of kind) i = comes stops
indexed_move (binary line op left right kind) i = comes stops
indexed_move (choose line test one two kind) i = comes stops
indexed_move (call line callee args kind) i = comes stops

-- before a read
abbrev pub ready_move : ScopedExpression → ℕ → Locals → Move
ready_move (object (lvalue line meant index checked) kind) e locals = read_move meant line e given locals
ready_move (assign line (Some op) (lvalue place meant index checked) value kind) e locals = read_move meant line e (old e) locals
ready_move (step line (lvalue place meant index checked) up before kind) e locals = read_move meant line e (old e) locals
ready_move (address line of kind) e locals = comes stops
ready_move (assign line None to value kind) e locals = comes stops
ready_move (constant line value form kind) e locals = comes stops
ready_move (null line kind) e locals = comes stops
ready_move (text line kind) e locals = comes stops
ready_move (paren line inner kind) e locals = comes stops
ready_move (unary line op of kind) e locals = comes stops
ready_move (cast line to of kind) e locals = comes stops
ready_move (binary line op left right kind) e locals = comes stops
ready_move (choose line test one two kind) e locals = comes stops
ready_move (call line callee args kind) e locals = comes stops

-- behind a read that found this value
abbrev pub old_move : ScopedExpression → ℕ → ℕ → Move
old_move (assign line (Some op) to value kind) e v = enters (operand e v)
old_move (step line (lvalue place meant index checked) up before kind) e v = step_move line meant up before e v
old_move (object of kind) e v = comes stops
old_move (address line of kind) e v = comes stops
old_move (assign line None to value kind) e v = comes stops
old_move (constant line value form kind) e v = comes stops
old_move (null line kind) e v = comes stops
old_move (text line kind) e v = comes stops
old_move (paren line inner kind) e v = comes stops
old_move (unary line op of kind) e v = comes stops
old_move (cast line to of kind) e v = comes stops
old_move (binary line op left right kind) e v = comes stops
old_move (choose line test one two kind) e v = comes stops
old_move (call line callee args kind) e v = comes stops

-- `=` behind its value: the check of its index
abbrev pub valued_move : ScopedExpression → ℕ → ℕ → Move
valued_move (assign line None (lvalue place meant index checked) value kind) i v =
    valued_target (lvalue place meant index checked) i (converted v (kind_of value) (kind_of_object meant))
valued_move (assign line (Some op) to value kind) i v = comes stops
valued_move (object of kind) i v = comes stops
valued_move (address line of kind) i v = comes stops
valued_move (step line of up before kind) i v = comes stops
valued_move (constant line value form kind) i v = comes stops
valued_move (null line kind) i v = comes stops
valued_move (text line kind) i v = comes stops
valued_move (paren line inner kind) i v = comes stops
valued_move (unary line op of kind) i v = comes stops
valued_move (cast line to of kind) i v = comes stops
valued_move (binary line op left right kind) i v = comes stops
valued_move (choose line test one two kind) i v = comes stops
valued_move (call line callee args kind) i v = comes stops

-- an assignment before its write
abbrev pub writing_move : ScopedExpression → ℕ → ℕ → Move
writing_move (assign line op (lvalue place meant index checked) value kind) e w = write_move meant line e w (settled w)
writing_move (object of kind) e w = comes stops
writing_move (address line of kind) e w = comes stops
writing_move (step line of up before kind) e w = comes stops
writing_move (constant line value form kind) e w = comes stops
writing_move (null line kind) e w = comes stops
writing_move (text line kind) e w = comes stops
writing_move (paren line inner kind) e w = comes stops
writing_move (unary line op of kind) e w = comes stops
writing_move (cast line to of kind) e w = comes stops
writing_move (binary line op left right kind) e w = comes stops
writing_move (choose line test one two kind) e w = comes stops
writing_move (call line callee args kind) e w = comes stops

-- an assignment with an operator behind its operand
abbrev pub operand_move : ScopedExpression → ℕ → ℕ → ℕ → Move
operand_move (assign line (Some op) (lvalue place meant index checked) value kind) e before b =
    divide_move (is_division op) line (right_operand op (kind_of_object meant) (kind_of value) b) (writing e (assigned op (kind_of_object meant) (kind_of value) before b))
operand_move (assign line None to value kind) e before b = comes stops
operand_move (object of kind) e before b = comes stops
operand_move (address line of kind) e before b = comes stops
operand_move (step line of up prefix kind) e before b = comes stops
operand_move (constant line value form kind) e before b = comes stops
operand_move (null line kind) e before b = comes stops
operand_move (text line kind) e before b = comes stops
operand_move (paren line inner kind) e before b = comes stops
operand_move (unary line op of kind) e before b = comes stops
operand_move (cast line to of kind) e before b = comes stops
operand_move (binary line op left right kind) e before b = comes stops
operand_move (choose line test one two kind) e before b = comes stops
operand_move (call line callee args kind) e before b = comes stops

-- the second operand, where the first does not decide
abbrev pub both_move : Bool → ℕ → Move
both_move true a = enters (second a)
both_move false a = comes (settles 0)

abbrev pub either_move : Bool → ℕ → Move
either_move true a = comes (settles 1)
either_move false a = enters (second a)

-- behind the first operand of an operator
abbrev pub left_move : Binary → ℕ → Move
left_move ops.Both a = both_move (is_true a) a
left_move ops.Either a = either_move (is_true a) a
left_move op a = enters (second a)

abbrev pub chosen_move : Bool → Move
chosen_move true = enters taken
chosen_move false = enters other

-- behind the first operand
abbrev pub first_move : ScopedExpression → ℕ → Move
first_move (paren line inner kind) a = comes (settles a)
first_move (unary line op of kind) a = comes (settles (unary_operated op (kind_of of) (kind_or kind) a))
first_move (cast line to of kind) a = comes (settles (converted a (kind_of of) (kind_or kind)))
first_move (binary line op left right kind) a = left_move op a
first_move (choose line test one two kind) a = chosen_move (is_true a)
first_move (object of kind) a = comes stops
first_move (address line of kind) a = comes stops
first_move (assign line op to value kind) a = comes stops
first_move (step line of up before kind) a = comes stops
first_move (constant line value form kind) a = comes stops
first_move (null line kind) a = comes stops
first_move (text line kind) a = comes stops
first_move (call line callee args kind) a = comes stops

abbrev pub right_move : Binary → ℕ → IntType → IntType → ℕ → ℕ → Move
right_move ops.Both line left right a b = comes (settles (truth (is_true b)))
right_move ops.Either line left right a b = comes (settles (truth (is_true b)))
right_move op line left right a b = divide_move (is_division op) line (right_operand op left right b) (settled (operated op left right a b))

-- behind both operands
abbrev pub second_move : ScopedExpression → ℕ → ℕ → Move
second_move (binary line op left right kind) a b = right_move op line (kind_of left) (kind_of right) a b
second_move (paren line inner kind) a b = comes stops
second_move (unary line op of kind) a b = comes stops
second_move (cast line to of kind) a b = comes stops
second_move (choose line test one two kind) a b = comes stops
second_move (object of kind) a b = comes stops
second_move (address line of kind) a b = comes stops
second_move (assign line op to value kind) a b = comes stops
second_move (step line of up before kind) a b = comes stops
second_move (constant line value form kind) a b = comes stops
second_move (null line kind) a b = comes stops
second_move (text line kind) a b = comes stops
second_move (call line callee args kind) a b = comes stops

-- behind the branch that was taken
abbrev pub branch_move : Bool → ScopedExpression → ℕ → Move
branch_move true (choose line test one two kind) a = comes (settles (converted a (kind_of one) (kind_or kind)))
branch_move false (choose line test one two kind) a = comes (settles (converted a (kind_of two) (kind_or kind)))
branch_move which (binary line op left right kind) a = comes stops
branch_move which (paren line inner kind) a = comes stops
branch_move which (unary line op of kind) a = comes stops
branch_move which (cast line to of kind) a = comes stops
branch_move which (object of kind) a = comes stops
branch_move which (address line of kind) a = comes stops
branch_move which (assign line op to value kind) a = comes stops
branch_move which (step line of up before kind) a = comes stops
branch_move which (constant line value form kind) a = comes stops
branch_move which (null line kind) a = comes stops
branch_move which (text line kind) a = comes stops
branch_move which (call line callee args kind) a = comes stops

-- the local values behind the write of `++` or `--`
abbrev pub old_locals : ScopedExpression → ℕ → ℕ → Locals → Locals
old_locals (constant line value form kind) e v locals = locals
old_locals (null line kind) e v locals = locals
old_locals (text line kind) e v locals = locals
old_locals (object of kind) e v locals = locals
old_locals (address line of kind) e v locals = locals
old_locals (paren line inner kind) e v locals = locals
old_locals (unary line op of kind) e v locals = locals
old_locals (cast line to of kind) e v locals = locals
old_locals (binary line op left right kind) e v locals = locals
old_locals (choose line test one two kind) e v locals = locals
old_locals (assign line None to value kind) e v locals = locals
old_locals (assign line (Some op) to value kind) e v locals = locals
old_locals (step line (lvalue place meant index checked) up prefix kind) e v locals = written meant e (stepped up (kind_of_object meant) v) locals
old_locals (call line callee args kind) e v locals = locals

-- the local values behind the write of an assignment
abbrev pub writing_locals : ScopedExpression → ℕ → ℕ → Locals → Locals
writing_locals (assign line op (lvalue place meant index checked) value kind) e w locals = written meant e w locals
writing_locals (constant line value form kind) e w locals = locals
writing_locals (null line kind) e w locals = locals
writing_locals (text line kind) e w locals = locals
writing_locals (object of kind) e w locals = locals
writing_locals (address line of kind) e w locals = locals
writing_locals (paren line inner kind) e w locals = locals
writing_locals (unary line op of kind) e w locals = locals
writing_locals (cast line to of kind) e w locals = locals
writing_locals (binary line op left right kind) e w locals = locals
writing_locals (choose line test one two kind) e w locals = locals
writing_locals (step line of up prefix kind) e w locals = locals
writing_locals (call line callee args kind) e w locals = locals

-- ---- calls

-- what a node calls: a function of the file, a known name, or nothing
pub data Called : Type 0 where
  function_called : (line function : ℕ) → Called
  known_called : (line : ℕ) (name : KnownName) → Called
  not_called : Called

abbrev pub callee_called : ℕ → Object → Called
callee_called line (Routine function) = function_called line function
callee_called line (Known name) = known_called line name
callee_called line (Local f len kind) = not_called
callee_called line (Cell f len kind) = not_called
callee_called line (Mutex f len) = not_called
callee_called line (Cond f len) = not_called
callee_called line (Handle f len) = not_called

abbrev pub called : ScopedExpression → Called
called (constant line value form kind) = not_called
called (null line kind) = not_called
called (text line kind) = not_called
called (object of kind) = not_called
called (address line of kind) = not_called
called (paren line inner kind) = not_called
called (unary line op of kind) = not_called
called (cast line to of kind) = not_called
called (binary line op left right kind) = not_called
called (choose line test one two kind) = not_called
called (step line of up prefix kind) = not_called
called (call line callee args kind) = callee_called line callee
called (assign line op to value kind) = not_called

-- before an argument of a function, or behind all
abbrev pub calling_so : Option ScopedExpression → ℕ → ScopedExpressions → List ℕ → Move
calling_so None function args values = comes (calls_on function (kinds_of args) values (at_stage given))
calling_so (Some e) function args values = enters (argument values)

abbrev pub calling_move : Called → ScopedExpressions → List ℕ → Move
calling_move (function_called line function) args values = calling_so (argument_at args (length values)) function args values
calling_move (known_called line name) args values = comes stops
calling_move not_called args values = comes stops

abbrev pub argument_move : Called → List ℕ → ℕ → Move
argument_move (function_called line function) values v = goes (calling (values ++ v ∷ [])) 0
argument_move (known_called line name) values v = comes stops
argument_move not_called values v = comes stops

-- an object that is handed to a known name: its index, where one is written
abbrev pub handed_index : ScopedIndex → List ℕ → ℕ → Move
handed_index whole objects k = goes (handed objects k) 0
handed_index (element index) objects k = enters (handed objects k)

abbrev pub handed_target : Lvalue → List ℕ → ℕ → Move
handed_target (lvalue line meant index checked) objects k = handed_index index objects k

-- an argument that may be an object: it is passed by where it is none
abbrev pub object_so : Bool → Lvalue → List ℕ → ℕ → Move
object_so true of objects k = handed_target of objects k
object_so false of objects k = goes (passing objects (suc k)) 0

abbrev pub passing_one : ScopedExpression → List ℕ → ℕ → Move
passing_one (constant line value form kind) objects k = goes (passing objects (suc k)) 0
passing_one (null line kind) objects k = goes (passing objects (suc k)) 0
passing_one (text line kind) objects k = goes (passing objects (suc k)) 0
passing_one (object of kind) objects k = object_so (is_handle (object_of of)) of objects k
passing_one (address line of kind) objects k = handed_target of objects k
passing_one (paren line inner kind) objects k = goes (passing objects (suc k)) 0
passing_one (unary line op of kind) objects k = goes (passing objects (suc k)) 0
passing_one (cast line to of kind) objects k = goes (passing objects (suc k)) 0
passing_one (binary line op left right kind) objects k = goes (passing objects (suc k)) 0
passing_one (choose line test one two kind) objects k = goes (passing objects (suc k)) 0
passing_one (step line of up prefix kind) objects k = goes (passing objects (suc k)) 0
passing_one (call line callee args kind) objects k = goes (passing objects (suc k)) 0
passing_one (assign line op to value kind) objects k = goes (passing objects (suc k)) 0

abbrev pub passing_so : Option ScopedExpression → List ℕ → ℕ → Move
passing_so None objects k = goes (arguing objects [] 0) 0
passing_so (Some e) objects k = passing_one e objects k

abbrev pub passing_move : Called → ScopedExpressions → List ℕ → ℕ → Move
passing_move (known_called line name) args objects k = passing_so (argument_at args k) objects k
passing_move (function_called line function) args objects k = comes stops
passing_move not_called args objects k = comes stops

-- an object that is handed, behind its index
abbrev pub passed_target : Lvalue → List ℕ → ℕ → ℕ → Move
passed_target of objects k v = index_move of v (passing (objects ++ element_at of v ∷ []) (suc k))

-- behind the index of an object that is handed
abbrev pub handed_one : ScopedExpression → List ℕ → ℕ → ℕ → Move
handed_one (constant line value form kind) objects k v = comes stops
handed_one (null line kind) objects k v = comes stops
handed_one (text line kind) objects k v = comes stops
handed_one (object of kind) objects k v = passed_target of objects k v
handed_one (address line of kind) objects k v = passed_target of objects k v
handed_one (paren line inner kind) objects k v = comes stops
handed_one (unary line op of kind) objects k v = comes stops
handed_one (cast line to of kind) objects k v = comes stops
handed_one (binary line op left right kind) objects k v = comes stops
handed_one (choose line test one two kind) objects k v = comes stops
handed_one (step line of up prefix kind) objects k v = comes stops
handed_one (call line callee args kind) objects k v = comes stops
handed_one (assign line op to value kind) objects k v = comes stops

abbrev pub handed_so : Option ScopedExpression → List ℕ → ℕ → ℕ → Move
handed_so None objects k v = comes stops
handed_so (Some e) objects k v = handed_one e objects k v

abbrev pub handed_move : Called → ScopedExpressions → List ℕ → ℕ → ℕ → Move
handed_move (known_called line name) args objects k v = handed_so (argument_at args k) objects k v
handed_move (function_called line function) args objects k v = comes stops
handed_move not_called args objects k v = comes stops

-- what a known name does, behind its arguments
abbrev pub known_move : ℕ → KnownName → List ℕ → List ℕ → Locals → Move
known_move line known.Assert objects values locals = check_move line (slice_index values 0) kinds.Assert (settled 0)
known_move line known.Assume objects values locals = assume_move line (slice_index values 0) (settled 0)
known_move line known.NondetInt objects values locals = comes (asks line Int (at_stage given))
known_move line known.NondetUint objects values locals = comes (asks line Unsigned (at_stage given))
known_move line known.Error objects values locals = comes (fails kinds.Reached line)
known_move line known.ReachError objects values locals = comes (fails kinds.Reached line)
known_move line known.Abort objects values locals = comes (refuses line)
known_move line known.AtomicBegin objects values locals = comes (acts HoldOn line (at_stage (settled 0)))
known_move line known.AtomicEnd objects values locals = comes (acts HoldOff line (at_stage (settled 0)))
known_move line known.Create objects values locals = comes (creates (slice_index values 1) (slice_index values 2) line (at_stage (made (slice_index objects 0))))
known_move line known.Join objects values locals = comes (acts (Join (locals.handles (slice_index objects 0))) line (at_stage (settled 0)))
known_move line known.Exit objects values locals = comes quits
known_move line known.MutexInit objects values locals = comes (acts (Reset (slice_index objects 0)) line (at_stage (settled 0)))
known_move line known.MutexDestroy objects values locals = comes (settles 0)
known_move line known.MutexLock objects values locals = comes (acts (Lock (slice_index objects 0)) line (at_stage (settled 0)))
known_move line known.MutexUnlock objects values locals = comes (acts (Unlock (slice_index objects 0)) line (at_stage (settled 0)))
known_move line known.CondInit objects values locals = comes (settles 0)
known_move line known.CondDestroy objects values locals = comes (settles 0)
known_move line known.CondWait objects values locals =
    comes (acts (Park (slice_index objects 0) (slice_index objects 1)) line (at_stage (woken (slice_index objects 0) (slice_index objects 1))))
known_move line known.CondSignal objects values locals = comes (signals (slice_index objects 0) line (at_stage given))
known_move line known.CondBroadcast objects values locals = comes (acts (Broadcast (slice_index objects 0)) line (at_stage (settled 0)))
known_move line known.Printf objects values locals = comes (settles 0)

-- an argument that may be a value: it is passed by where it is an object
abbrev pub value_so : Bool → List ℕ → List ℕ → ℕ → Move
value_so true objects values k = goes (arguing objects values (suc k)) 0
value_so false objects values k = enters (argued objects values k)

abbrev pub arguing_so : Option ScopedExpression → ℕ → KnownName → List ℕ → List ℕ → ℕ → Locals → Move
arguing_so None line name objects values k locals = known_move line name objects values locals
arguing_so (Some e) line name objects values k locals = value_so (is_object_argument e) objects values k

abbrev pub arguing_move : Called → ScopedExpressions → List ℕ → List ℕ → ℕ → Locals → Move
arguing_move (known_called line name) args objects values k locals = arguing_so (argument_at args k) line name objects values k locals
arguing_move (function_called line function) args objects values k locals = comes stops
arguing_move not_called args objects values k locals = comes stops

abbrev pub argued_so : Option ScopedExpression → List ℕ → List ℕ → ℕ → ℕ → Move
argued_so None objects values k v = comes stops
argued_so (Some e) objects values k v = goes (arguing objects (values ++ v ∷ []) (suc k)) 0

abbrev pub argued_move : Called → ScopedExpressions → List ℕ → List ℕ → ℕ → ℕ → Move
argued_move (known_called line name) args objects values k v = argued_so (argument_at args k) objects values k v
argued_move (function_called line function) args objects values k v = comes stops
argued_move not_called args objects values k v = comes stops

abbrev pub woken_move : Called → ℕ → ℕ → Move
woken_move (known_called line name) cond mutex = comes (acts (Wake cond mutex) line (at_stage (settled 0)))
woken_move (function_called line function) cond mutex = comes stops
woken_move not_called cond mutex = comes stops

abbrev pub made_move : Called → Move
made_move (known_called line name) = comes (settles 0)
made_move (function_called line function) = comes stops
made_move not_called = comes stops

abbrev pub made_locals : Called → ℕ → ℕ → Locals → Locals
made_locals (known_called line name) handle d locals = set_handle handle d locals
made_locals (function_called line function) handle d locals = locals
made_locals not_called handle d locals = locals

-- what a node does at a stage, with this value
abbrev pub turn_of : ScopedExpression → Stage → ℕ → Locals → Move
turn_of e start v locals = begin_move e
turn_of e given v locals = comes (settles v)
turn_of e (settled w) v locals = comes (settles w)
turn_of e indexed v locals = indexed_move e v
turn_of e (ready at) v locals = ready_move e at locals
turn_of e (old at) v locals = old_move e at v
turn_of e (valued i) v locals = valued_move e i v
turn_of e (writing at w) v locals = writing_move e at w
turn_of e (operand at w) v locals = operand_move e at w v
turn_of e first v locals = first_move e v
turn_of e (second a) v locals = second_move e a v
turn_of e taken v locals = branch_move true e v
turn_of e other v locals = branch_move false e v
turn_of e (calling values) v locals = calling_move (called e) (arguments_of e) values
turn_of e (argument values) v locals = argument_move (called e) values v
turn_of e (passing objects k) v locals = passing_move (called e) (arguments_of e) objects k
turn_of e (handed objects k) v locals = handed_move (called e) (arguments_of e) objects k v
turn_of e (arguing objects values k) v locals = arguing_move (called e) (arguments_of e) objects values k locals
turn_of e (argued objects values k) v locals = argued_move (called e) (arguments_of e) objects values k v
turn_of e (woken cond mutex) v locals = woken_move (called e) cond mutex
turn_of e (made handle) v locals = made_move (called e)

-- the local values that it leaves
abbrev pub left_by : ScopedExpression → Stage → ℕ → Locals → Locals
left_by e start v locals = locals
left_by e given v locals = locals
left_by e (settled w) v locals = locals
left_by e indexed v locals = locals
left_by e (ready at) v locals = locals
left_by e (old at) v locals = old_locals e at v locals
left_by e (valued i) v locals = locals
left_by e (writing at w) v locals = writing_locals e at w locals
left_by e (operand at w) v locals = locals
left_by e first v locals = locals
left_by e (second a) v locals = locals
left_by e taken v locals = locals
left_by e other v locals = locals
left_by e (calling values) v locals = locals
left_by e (argument values) v locals = locals
left_by e (passing objects k) v locals = locals
left_by e (handed objects k) v locals = locals
left_by e (arguing objects values k) v locals = locals
left_by e (argued objects values k) v locals = locals
left_by e (woken cond mutex) v locals = locals
left_by e (made handle) v locals = made_locals (called e) handle v locals
