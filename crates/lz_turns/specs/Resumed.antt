-- Inner: what an expression may do from a place in it, in the terms of the traces of code.
use Rattle.std.specs.Prelude.{◌≡◌, ℕ, zero, suc, ◌+◌, ◌*◌, ◌≤◌, Bool, false, nat_lt, List, [], ◌∷◌, ◌++◌, length, Option, Some, None, if◌then◌else◌}
use Rattle.lz_base.specs.Words.{is_true, truth, converted}
use Rattle.lz_base.specs.declared.operator.Binary.{Binary}
use Rattle.lz_base.specs.declared.operator.Binary.TheVariants as ops
use Rattle.lz_base.specs.declared.word.IntType.{IntType}
use Rattle.lz_tree.specs.declared.scoped.KnownName.{KnownName}
use Rattle.lz_tree.specs.declared.scoped.Object.{Object}
use Rattle.lz_tree.specs.declared.scoped.Object.TheVariants.{Local, Cell, Mutex, Cond, Handle, Routine, Known}
use Rattle.lz_tree.specs.ScopedTrees.{ScopedExpression, constant, null, text, object, address, paren, unary, cast, binary, choose, assign, step, call, Lvalue, lvalue, ScopedIndex, whole, element, ScopedExpressions, none, and, ScopedProgram}
use Rattle.lz_model.specs.declared.actions.Action.TheVariants.{Loc, Check, Assume, Rd, Wr, Signal, Create, Wake}
use Rattle.lz_model.specs.Behaviours.{Behaviour, ends_with, halts, leaves, stays, tells, chooses, ◌and_then◌, ◌gives◌, picks}
use Rattle.lz_model.specs.CodeTraces.{Locals, set_local, set_handle, Calls, at, does, loc, IsWord, IsAny, inputs, write_at, needs, bounds, len_of, kind_of_object, kind_or, kind_of, kinds_of, first_of, right_operand, operated, checks_divisor, behind_first, assigned, stepped, unary_operated, passed, in_frame, locs, known_trace, expression_trace, objects_trace, values_trace, arguments_trace}
use Rattle.lz_model.specs.Programs.{calls_within}
use Rattle.lz_turns.specs.Stages.{Stage, start, given, settled, indexed, ready, old, valued, writing, operand, first, second, taken, other, calling, argument, passing, handed, arguing, argued, woken, made, Point, at_stage, within, Came, settles, acts, reads, asks, signals, creates, calls_on, fails, refuses, quits, stops, Move, enters, goes, comes}
use Rattle.lz_turns.specs.Moves.{slot_of, part_of, Called, function_called, known_called, not_called, called, argument_at, arguments_of}
use Rattle.lz_turns.specs.Nears.{part_calls, calls_left, Nears}
use Rattle.lz_turns.specs.Ranks.{rank}
use Rattle.lz_turns.specs.Seen.{Alike}

-- a read and a write of an element, by its number
abbrev pub read_element : ℕ → Object → ℕ → Behaviour Locals ℕ
read_element line (Local f len kind) e = tells (at line Loc) λ locals. locals.frame e
read_element line (Cell f len kind) e = chooses IsWord λ v. does line (Rd e v) v
read_element line (Handle f len) e = tells (at line Loc) λ locals. locals.handles e
read_element line (Routine function) e = ends_with function
read_element line (Mutex f len) e = halts
read_element line (Cond f len) e = halts
read_element line (Known name) e = halts

abbrev pub write_element : ℕ → Object → ℕ → ℕ → Behaviour Locals ℕ
write_element line (Local f len kind) e v = loc line (set_local e v) v
write_element line (Cell f len kind) e v = does line (Wr e v) v
write_element line (Handle f len) e v = halts
write_element line (Routine function) e v = halts
write_element line (Mutex f len) e v = halts
write_element line (Cond f len) e v = halts
write_element line (Known name) e v = halts

-- the check of an index of an object, which is 0 where none is written
abbrev pub index_checks : ℕ → Object → ScopedIndex → Bool → ℕ → Behaviour Locals ℕ
index_checks line meant whole checked i = needs (nat_lt i 1)
index_checks line meant (element index) checked i = bounds line checked (nat_lt i (len_of meant))

-- an assignment before its write
abbrev pub behind_check : ScopedExpression → ℕ → ℕ → Behaviour Locals ℕ
behind_check (constant line value form kind) e w = halts
behind_check (null line kind) e w = halts
behind_check (text line kind) e w = halts
behind_check (object of kind) e w = halts
behind_check (address line of kind) e w = halts
behind_check (paren line inner kind) e w = halts
behind_check (unary line op of kind) e w = halts
behind_check (cast line to of kind) e w = halts
behind_check (binary line op left right kind) e w = halts
behind_check (choose line test one two kind) e w = halts
behind_check (assign line None (lvalue place meant index checked) value kind) e w = write_element line meant e w
behind_check (assign line (Some op) (lvalue place meant index checked) value kind) e w = write_element line meant e w
behind_check (step line of up prefix kind) e w = halts
behind_check (call line callee args kind) e w = halts

-- an assignment with an operator behind its operand
abbrev pub behind_operand : ScopedExpression → ℕ → ℕ → ℕ → Behaviour Locals ℕ
behind_operand (constant line value form kind) e before b = halts
behind_operand (null line kind) e before b = halts
behind_operand (text line kind) e before b = halts
behind_operand (object of kind) e before b = halts
behind_operand (address line of kind) e before b = halts
behind_operand (paren line inner kind) e before b = halts
behind_operand (unary line op of kind) e before b = halts
behind_operand (cast line to of kind) e before b = halts
behind_operand (binary line op left right kind) e before b = halts
behind_operand (choose line test one two kind) e before b = halts
behind_operand (assign line None to value kind) e before b = halts
behind_operand (assign line (Some op) (lvalue place meant index checked) value kind) e before b =
    checks_divisor line op (right_operand op (kind_of_object meant) (kind_of value) b) and_then λ _.
    write_element line meant e (assigned op (kind_of_object meant) (kind_of value) before b)
behind_operand (step line of up prefix kind) e before b = halts
behind_operand (call line callee args kind) e before b = halts

-- `=` behind its value
abbrev pub behind_value : ScopedExpression → ℕ → ℕ → Behaviour Locals ℕ
behind_value (constant line value form kind) i v = halts
behind_value (null line kind) i v = halts
behind_value (text line kind) i v = halts
behind_value (object of kind) i v = halts
behind_value (address line of kind) i v = halts
behind_value (paren line inner kind) i v = halts
behind_value (unary line op of kind) i v = halts
behind_value (cast line to of kind) i v = halts
behind_value (binary line op left right kind) i v = halts
behind_value (choose line test one two kind) i v = halts
behind_value (assign line None (lvalue place meant index checked) value kind) i v =
    index_checks place meant index checked i and_then λ _. write_at line meant i (converted v (kind_of value) (kind_of_object meant))
behind_value (assign line (Some op) to value kind) i v = halts
behind_value (step line of up prefix kind) i v = halts
behind_value (call line callee args kind) i v = halts

-- behind a read
abbrev pub behind_read : Calls → ScopedExpression → ℕ → ℕ → Behaviour Locals ℕ
behind_read calls (constant line value form kind) e v = halts
behind_read calls (null line kind) e v = halts
behind_read calls (text line kind) e v = halts
behind_read calls (object of kind) e v = halts
behind_read calls (address line of kind) e v = halts
behind_read calls (paren line inner kind) e v = halts
behind_read calls (unary line op of kind) e v = halts
behind_read calls (cast line to of kind) e v = halts
behind_read calls (binary line op left right kind) e v = halts
behind_read calls (choose line test one two kind) e v = halts
behind_read calls (assign line None to value kind) e v = halts
behind_read calls (assign line (Some op) (lvalue place meant index checked) value kind) e v =
    expression_trace calls value and_then λ b. behind_operand (assign line (Some op) (lvalue place meant index checked) value kind) e v b
behind_read calls (step line (lvalue place meant index checked) up prefix kind) e v =
    write_element line meant e (stepped up (kind_of_object meant) v) gives λ new. if prefix then new else v
behind_read calls (call line callee args kind) e v = halts

-- before a read
abbrev pub behind_place : Calls → ScopedExpression → ℕ → Behaviour Locals ℕ
behind_place calls (constant line value form kind) e = halts
behind_place calls (null line kind) e = halts
behind_place calls (text line kind) e = halts
behind_place calls (object (lvalue place meant index checked) kind) e = read_element place meant e
behind_place calls (address line of kind) e = halts
behind_place calls (paren line inner kind) e = halts
behind_place calls (unary line op of kind) e = halts
behind_place calls (cast line to of kind) e = halts
behind_place calls (binary line op left right kind) e = halts
behind_place calls (choose line test one two kind) e = halts
behind_place calls (assign line None to value kind) e = halts
behind_place calls (assign line (Some op) (lvalue place meant index checked) value kind) e =
    read_element line meant e and_then λ v. behind_read calls (assign line (Some op) (lvalue place meant index checked) value kind) e v
behind_place calls (step line (lvalue place meant index checked) up prefix kind) e =
    read_element line meant e and_then λ v. behind_read calls (step line (lvalue place meant index checked) up prefix kind) e v
behind_place calls (call line callee args kind) e = halts

-- behind an index
abbrev pub behind_index : Calls → ScopedExpression → ℕ → Behaviour Locals ℕ
behind_index calls (constant line value form kind) i = halts
behind_index calls (null line kind) i = halts
behind_index calls (text line kind) i = halts
behind_index calls (object (lvalue place meant index checked) kind) i =
    index_checks place meant index checked i and_then λ _. behind_place calls (object (lvalue place meant index checked) kind) (first_of meant + i)
behind_index calls (address line (lvalue place meant index checked) kind) i = index_checks place meant index checked i and_then λ _. ends_with i
behind_index calls (paren line inner kind) i = halts
behind_index calls (unary line op of kind) i = halts
behind_index calls (cast line to of kind) i = halts
behind_index calls (binary line op left right kind) i = halts
behind_index calls (choose line test one two kind) i = halts
behind_index calls (assign line None to value kind) i = expression_trace calls value and_then λ v. behind_value (assign line None to value kind) i v
behind_index calls (assign line (Some op) (lvalue place meant index checked) value kind) i =
    index_checks place meant index checked i and_then λ _. behind_place calls (assign line (Some op) (lvalue place meant index checked) value kind) (first_of meant + i)
behind_index calls (step line (lvalue place meant index checked) up prefix kind) i =
    index_checks place meant index checked i and_then λ _. behind_place calls (step line (lvalue place meant index checked) up prefix kind) (first_of meant + i)
behind_index calls (call line callee args kind) i = halts

-- behind the first operand
abbrev pub behind_one : Calls → ScopedExpression → ℕ → Behaviour Locals ℕ
behind_one calls (constant line value form kind) a = halts
behind_one calls (null line kind) a = halts
behind_one calls (text line kind) a = halts
behind_one calls (object of kind) a = halts
behind_one calls (address line of kind) a = halts
behind_one calls (paren line inner kind) a = ends_with a
behind_one calls (unary line op of kind) a = ends_with (unary_operated op (kind_of of) (kind_or kind) a)
behind_one calls (cast line to of kind) a = ends_with (converted a (kind_of of) (kind_or kind))
behind_one calls (binary line op left right kind) a = behind_first line op (kind_of left) (kind_of right) (expression_trace calls right) a
behind_one calls (choose line test one two kind) a =
    loc line stays (is_true a) and_then λ yes. picks yes
    (expression_trace calls one gives λ v. converted v (kind_of one) (kind_or kind))
    (expression_trace calls two gives λ v. converted v (kind_of two) (kind_or kind))
behind_one calls (assign line None to value kind) a = halts
behind_one calls (assign line (Some op) to value kind) a = halts
behind_one calls (step line of up prefix kind) a = halts
behind_one calls (call line callee args kind) a = halts

-- the value of an operator that looks at the truth of its operands, and of the others behind the check of a divisor
abbrev pub right_trace : Binary → ℕ → IntType → IntType → ℕ → ℕ → Behaviour Locals ℕ
right_trace ops.Both line left right a b = ends_with (truth (is_true b))
right_trace ops.Either line left right a b = ends_with (truth (is_true b))
right_trace op line left right a b = checks_divisor line op (right_operand op left right b) gives λ _. operated op left right a b

-- behind both operands
abbrev pub behind_two : ScopedExpression → ℕ → ℕ → Behaviour Locals ℕ
behind_two (constant line value form kind) a b = halts
behind_two (null line kind) a b = halts
behind_two (text line kind) a b = halts
behind_two (object of kind) a b = halts
behind_two (address line of kind) a b = halts
behind_two (paren line inner kind) a b = halts
behind_two (unary line op of kind) a b = halts
behind_two (cast line to of kind) a b = halts
behind_two (binary line op left right kind) a b = right_trace op line (kind_of left) (kind_of right) a b
behind_two (choose line test one two kind) a b = halts
behind_two (assign line None to value kind) a b = halts
behind_two (assign line (Some op) to value kind) a b = halts
behind_two (step line of up prefix kind) a b = halts
behind_two (call line callee args kind) a b = halts

-- behind the branch that was taken
abbrev pub behind_taken : ScopedExpression → ℕ → Behaviour Locals ℕ
behind_taken (constant line value form kind) a = halts
behind_taken (null line kind) a = halts
behind_taken (text line kind) a = halts
behind_taken (object of kind) a = halts
behind_taken (address line of kind) a = halts
behind_taken (paren line inner kind) a = halts
behind_taken (unary line op of kind) a = halts
behind_taken (cast line to of kind) a = halts
behind_taken (binary line op left right kind) a = halts
behind_taken (choose line test one two kind) a = ends_with (converted a (kind_of one) (kind_or kind))
behind_taken (assign line None to value kind) a = halts
behind_taken (assign line (Some op) to value kind) a = halts
behind_taken (step line of up prefix kind) a = halts
behind_taken (call line callee args kind) a = halts

abbrev pub behind_other : ScopedExpression → ℕ → Behaviour Locals ℕ
behind_other (constant line value form kind) a = halts
behind_other (null line kind) a = halts
behind_other (text line kind) a = halts
behind_other (object of kind) a = halts
behind_other (address line of kind) a = halts
behind_other (paren line inner kind) a = halts
behind_other (unary line op of kind) a = halts
behind_other (cast line to of kind) a = halts
behind_other (binary line op left right kind) a = halts
behind_other (choose line test one two kind) a = ends_with (converted a (kind_of two) (kind_or kind))
behind_other (assign line None to value kind) a = halts
behind_other (assign line (Some op) to value kind) a = halts
behind_other (step line of up prefix kind) a = halts
behind_other (call line callee args kind) a = halts

-- the expressions from this one on
abbrev pub rest_from : ScopedExpressions → ℕ → ScopedExpressions
rest_from args zero = args
rest_from none (suc k) = none
rest_from (and e rest) (suc k) = rest_from rest k

-- a call of a function: these arguments, behind others with these values, and then its body
abbrev pub calls_with : Calls → ℕ → ℕ → ScopedExpressions → List ℕ → Behaviour Locals ℕ
calls_with calls line function args values = locs line values and_then λ _. in_frame (passed (kinds_of args) (calls.params function) values) (calls.does function)

abbrev pub calling_from : Calls → ℕ → ℕ → ScopedExpressions → ScopedExpressions → List ℕ → Behaviour Locals ℕ
calling_from calls line function args rest values = arguments_trace calls rest and_then λ vs. calls_with calls line function args (values ++ vs)

abbrev pub calling_trace : Calls → Called → ScopedExpressions → List ℕ → Behaviour Locals ℕ
calling_trace calls (function_called line function) args values = calling_from calls line function args (rest_from args (length values)) values
calling_trace calls (known_called line name) args values = halts
calling_trace calls not_called args values = halts

-- a call of a known name: these arguments, as values
abbrev pub arguing_from : Calls → ℕ → KnownName → ScopedExpressions → List ℕ → List ℕ → Behaviour Locals ℕ
arguing_from calls line name rest objects values = values_trace calls rest and_then λ vs. known_trace line name objects (values ++ vs)

abbrev pub arguing_trace : Calls → Called → ScopedExpressions → List ℕ → List ℕ → ℕ → Behaviour Locals ℕ
arguing_trace calls (known_called line name) args objects values k = arguing_from calls line name (rest_from args k) objects values
arguing_trace calls (function_called line function) args objects values k = halts
arguing_trace calls not_called args objects values k = halts

abbrev pub argued_known : Calls → Called → ScopedExpressions → Option ScopedExpression → List ℕ → List ℕ → ℕ → ℕ → Behaviour Locals ℕ
argued_known calls d args None objects values k v = halts
argued_known calls d args (Some e) objects values k v = arguing_trace calls d args objects (values ++ v ∷ []) (suc k)

abbrev pub argued_trace : Calls → Called → ScopedExpressions → Option ScopedExpression → List ℕ → List ℕ → ℕ → ℕ → Behaviour Locals ℕ
argued_trace calls (known_called line name) args o objects values k v = argued_known calls (known_called line name) args o objects values k v
argued_trace calls (function_called line function) args o objects values k v = halts
argued_trace calls not_called args o objects values k v = halts

-- and as objects, before the values
abbrev pub passing_from : Calls → ℕ → KnownName → ScopedExpressions → ScopedExpressions → List ℕ → Behaviour Locals ℕ
passing_from calls line name args rest objects = objects_trace calls rest and_then λ os. arguing_from calls line name args (objects ++ os) []

abbrev pub passing_trace : Calls → Called → ScopedExpressions → List ℕ → ℕ → Behaviour Locals ℕ
passing_trace calls (known_called line name) args objects k = passing_from calls line name args (rest_from args k) objects
passing_trace calls (function_called line function) args objects k = halts
passing_trace calls not_called args objects k = halts

-- behind the index of an object that is handed
abbrev pub handed_place : Calls → Called → ScopedExpressions → Lvalue → List ℕ → ℕ → ℕ → Behaviour Locals ℕ
handed_place calls d args (lvalue line meant index checked) objects k v =
    index_checks line meant index checked v and_then λ _. passing_trace calls d args (objects ++ (first_of meant + v) ∷ []) (suc k)

abbrev pub handed_expression : Calls → Called → ScopedExpressions → ScopedExpression → List ℕ → ℕ → ℕ → Behaviour Locals ℕ
handed_expression calls d args (constant line value form kind) objects k v = halts
handed_expression calls d args (null line kind) objects k v = halts
handed_expression calls d args (text line kind) objects k v = halts
handed_expression calls d args (object of kind) objects k v = handed_place calls d args of objects k v
handed_expression calls d args (address line of kind) objects k v = handed_place calls d args of objects k v
handed_expression calls d args (paren line inner kind) objects k v = halts
handed_expression calls d args (unary line op of kind) objects k v = halts
handed_expression calls d args (cast line to of kind) objects k v = halts
handed_expression calls d args (binary line op left right kind) objects k v = halts
handed_expression calls d args (choose line test one two kind) objects k v = halts
handed_expression calls d args (step line of up prefix kind) objects k v = halts
handed_expression calls d args (call line callee row kind) objects k v = halts
handed_expression calls d args (assign line op to value kind) objects k v = halts

abbrev pub handed_known : Calls → Called → ScopedExpressions → Option ScopedExpression → List ℕ → ℕ → ℕ → Behaviour Locals ℕ
handed_known calls d args None objects k v = halts
handed_known calls d args (Some e) objects k v = handed_expression calls d args e objects k v

abbrev pub handed_trace_of : Calls → Called → ScopedExpressions → Option ScopedExpression → List ℕ → ℕ → ℕ → Behaviour Locals ℕ
handed_trace_of calls (known_called line name) args o objects k v = handed_known calls (known_called line name) args o objects k v
handed_trace_of calls (function_called line function) args o objects k v = halts
handed_trace_of calls not_called args o objects k v = halts

-- the second half of a wait
abbrev pub woken_trace : Called → ℕ → ℕ → Behaviour Locals ℕ
woken_trace (known_called line name) cond mutex = does line (Wake cond mutex) 0
woken_trace (function_called line function) cond mutex = halts
woken_trace not_called cond mutex = halts

-- a creation, whose thread's number is kept
abbrev pub made_trace : Called → ℕ → ℕ → Behaviour Locals ℕ
made_trace (known_called line name) handle d = loc line (set_handle handle d) 0
made_trace (function_called line function) handle d = halts
made_trace not_called handle d = halts

-- what is left of a node at a stage, with this value
abbrev pub stage_trace : Calls → ScopedExpression → Stage → ℕ → Behaviour Locals ℕ
stage_trace calls e start v = expression_trace calls e
stage_trace calls e given v = ends_with v
stage_trace calls e (settled w) v = ends_with w
stage_trace calls e indexed v = behind_index calls e v
stage_trace calls e (ready at) v = behind_place calls e at
stage_trace calls e (old at) v = behind_read calls e at v
stage_trace calls e (valued i) v = behind_value e i v
stage_trace calls e (writing at w) v = behind_check e at w
stage_trace calls e (operand at w) v = behind_operand e at w v
stage_trace calls e first v = behind_one calls e v
stage_trace calls e (second a) v = behind_two e a v
stage_trace calls e taken v = behind_taken e v
stage_trace calls e other v = behind_other e v
stage_trace calls e (calling values) v = calling_trace calls (called e) (arguments_of e) values
stage_trace calls e (argument values) v = calling_trace calls (called e) (arguments_of e) (values ++ v ∷ [])
stage_trace calls e (passing objects k) v = passing_trace calls (called e) (arguments_of e) objects k
stage_trace calls e (handed objects k) v = handed_trace_of calls (called e) (arguments_of e) (argument_at (arguments_of e) k) objects k v
stage_trace calls e (arguing objects values k) v = arguing_trace calls (called e) (arguments_of e) objects values k
stage_trace calls e (argued objects values k) v = argued_trace calls (called e) (arguments_of e) (argument_at (arguments_of e) k) objects values k v
stage_trace calls e (woken cond mutex) v = woken_trace (called e) cond mutex
stage_trace calls e (made handle) v = made_trace (called e) handle v

-- what a part does, where there is one
abbrev pub with_part : {A : Type 0} → Option ScopedExpression → (ScopedExpression → Behaviour Locals A) → Behaviour Locals A
with_part None does = halts
with_part (Some part) does = does part

-- what an expression may do from a place in it, where this value is given
abbrev pub resumed : Calls → ScopedExpression → Point → ℕ → Behaviour Locals ℕ
resumed calls e (at_stage stage) v = stage_trace calls e stage v
resumed calls e (within stage inner) v = with_part (part_of e (slot_of stage)) λ part. resumed calls part inner v and_then λ w. stage_trace calls e stage w

-- what may be done where an expression came so far
abbrev pub behind : Calls → ScopedExpression → Came → Behaviour Locals ℕ
behind calls e (settles v) = ends_with v
behind calls e (acts action line point) = does line action zero and_then λ _. resumed calls e point 0
behind calls e (reads cell line point) = (chooses IsWord λ v. does line (Rd cell v) v) and_then λ v. resumed calls e point v
behind calls e (asks line kind point) = inputs line kind and_then λ v. resumed calls e point v
behind calls e (signals cond line point) = (chooses IsAny λ woken. does line (Signal cond woken) 0) and_then λ v. resumed calls e point v
behind calls e (creates routine value line point) = chooses IsAny λ d. does line (Create d routine value) zero and_then λ _. resumed calls e point d
behind calls e (calls_on function kinds values point) = in_frame (passed kinds (calls.params function) values) (calls.does function) and_then λ v. resumed calls e point v
behind calls e (fails kind line) = does line (Check 0 kind) zero and_then λ _. halts
behind calls e (refuses line) = does line (Assume 0) zero and_then λ _. halts
behind calls e quits = leaves false
behind calls e stops = halts

-- what may be done where a node makes this move
abbrev pub moved : Calls → ScopedExpression → Move → Behaviour Locals ℕ
moved calls e (enters stage) = resumed calls e (within stage (at_stage start)) 0
moved calls e (goes stage v) = stage_trace calls e stage v
moved calls e (comes came) = behind calls e came

-- An expression comes so far, from this place and these local values to those, whatever the depth of the program's
-- calls; each call brings it nearer to its end.
pub record Comes (e : ScopedExpression) (point : Point) (given : ℕ) (before : Locals) (came : Came) (after : Locals) : Type 0 where
  pub same : (p : ScopedProgram) (n depth : ℕ) → Alike (resumed (calls_within p n depth) e point given) before (behind (calls_within p n depth) e came) after
  pub near : Nears e (calls_left point e) came

-- A part comes so far, where there is one; where there is none, nothing comes.
abbrev pub PartComes : Option ScopedExpression → Point → ℕ → Locals → Came → Locals → Type 0
PartComes None point v before came after = came ≡ stops
PartComes (Some part) point v before came after = Comes part point v before came after

-- What one turn leads to: to another stage of the same node, with a value, or so far.
pub data Turned : Type 0 where
  again : (stage : Stage) (value : ℕ) → Turned
  stopped : (came : Came) → Turned

abbrev pub behind_turn : Calls → ScopedExpression → Turned → Behaviour Locals ℕ
behind_turn calls e (again stage v) = stage_trace calls e stage v
behind_turn calls e (stopped came) = behind calls e came

-- a node comes so near by a turn, where so many calls were left
abbrev pub TurnNears : ScopedExpression → ℕ → Turned → Type 0
TurnNears e left (again stage v) = rank e stage * part_calls e ≤ left
TurnNears e left (stopped came) = Nears e left came

-- a node comes by turns from one stage to this, with these local values
pub record Turns (e : ScopedExpression) (stage : Stage) (given : ℕ) (before : Locals) (turned : Turned) (after : Locals) : Type 0 where
  pub same : (p : ScopedProgram) (n depth : ℕ) → Alike (stage_trace (calls_within p n depth) e stage given) before (behind_turn (calls_within p n depth) e turned) after
  pub near : TurnNears e (rank e stage * part_calls e) turned
