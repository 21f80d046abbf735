-- What a node makes of its stage is what its code may do from there, Loc left out.
use Rattle.std.proofs.Common.{ℕ, zero, ◌+◌, Bool, true, false, Option, Some, None, refl, if◌then◌else◌}
use Rattle.lz_base.specs.Words.{is_true, truth, converted}
use Rattle.lz_base.specs.declared.word.IntType.{IntType}
use Rattle.lz_base.specs.declared.operator.Binary.{Binary}
use Rattle.lz_base.specs.declared.operator.Binary.TheVariants as ops
use Rattle.lz_tree.specs.declared.scoped.Object.{Object}
use Rattle.lz_tree.specs.declared.scoped.Object.TheVariants.{Local, Cell, Mutex, Cond, Handle, Routine, Known}
use Rattle.lz_tree.specs.ScopedTrees.{ScopedExpression, constant, null, text, object, address, paren, unary, cast, binary, choose, assign, step, call, lvalue, ScopedIndex, whole, element}
use Rattle.lz_model.specs.Behaviours.{ends_with, stays, ◌and_then◌, ◌gives◌, picks}
use Rattle.lz_model.specs.CodeTraces.{Locals, Calls, read_at, write_at, first_of, kind_of_object, kind_or, kind_of, right_operand, operated, is_division, checks_divisor, behind_first, assigned, stepped, expression_trace}
use Rattle.lz_model.proofs.FrontsLemmas.{FrontCalls, fronts_expression, fronts_checks_index, fronts_divisor}
use Rattle.lz_turns.specs.Stages.{Stage, start, given, settled, indexed, ready, old, valued, writing, operand, first, second, taken, other, calling, argument, passing, handed, arguing, argued, woken, made}
use Rattle.lz_turns.specs.Moves.{begin_move, indexed_move, ready_move, old_move, old_locals, valued_move, writing_move, writing_locals, operand_move, both_move, either_move, left_move, chosen_move, first_move, right_move, second_move, branch_move, turn_of, left_by, called}
use Rattle.lz_turns.specs.Seen.{Alike}
use Rattle.lz_turns.specs.Resumed.{write_element, behind_check, behind_operand, behind_value, behind_read, behind_place, behind_index, behind_one, right_trace, behind_two, behind_taken, behind_other, stage_trace, moved}
use Rattle.lz_turns.proofs.SeenLemmas.{alike_same, alike_alike, alike_then, alike_behind, alike_value, alike_loc, alike_gives, alike_ends}
use Rattle.lz_turns.proofs.StepsLemmas.{fronts_read, fronts_write, read_same, write_same, place_begins, index_moves, divide_moves, read_moves, write_moves}
use Rattle.lz_turns.proofs.CallsLemmas.{callings, argument_behind, passings, handed_behind, arguings, argued_behind, wokens, mades, call_starts}

-- ---- stages of a node

module _ (calls : Calls) (c : FrontCalls calls) where
  begin_object : (line : ℕ) (meant : Object) (index : ScopedIndex) (checked : Bool) (kind : Option IntType) (s : Locals)
      → let e = object (lvalue line meant index checked) kind in Alike (expression_trace calls e) s (moved calls e (begin_move e)) s
  begin_object line meant whole checked kind s = alike_alike (place_begins calls c line meant whole checked _ _ (λ i t. read_same line meant i t) s) alike_value
  begin_object line meant (element index) checked kind s = place_begins calls c line meant (element index) checked _ _ (λ i t. read_same line meant i t) s

  begin_address : (line place : ℕ) (meant : Object) (index : ScopedIndex) (checked : Bool) (kind : Option IntType) (s : Locals)
      → let e = address line (lvalue place meant index checked) kind in Alike (expression_trace calls e) s (moved calls e (begin_move e)) s
  begin_address line place meant whole checked kind s = alike_alike alike_value (alike_gives (fronts_checks_index place meant whole checked 0) _ s)
  begin_address line place meant (element index) checked kind s = alike_behind (fronts_expression calls c index) (λ i t. alike_gives (fronts_checks_index place meant (element index) checked i) _ t) s

  begin_assign : (line place : ℕ) (meant : Object) (index : ScopedIndex) (checked : Bool) (value : ScopedExpression) (kind : Option IntType) (s : Locals)
      → let e = assign line None (lvalue place meant index checked) value kind in Alike (expression_trace calls e) s (moved calls e (begin_move e)) s
  begin_assign line place meant whole checked value kind s = alike_value
  begin_assign line place meant (element index) checked value kind s = alike_same

  operates : (line place : ℕ) (op : Binary) (meant : Object) (index : ScopedIndex) (checked : Bool) (value : ScopedExpression) (kind : Option IntType) (i : ℕ) (s : Locals)
      → Alike (read_at line meant i and_then λ old_value. expression_trace calls value and_then λ b.
      checks_divisor line op (right_operand op (kind_of_object meant) (kind_of value) b) and_then λ _.
      write_at line meant i (assigned op (kind_of_object meant) (kind_of value) old_value b)) s
      (behind_place calls (assign line (Some op) (lvalue place meant index checked) value kind) (first_of meant + i)) s
  operates line place op meant index checked value kind i s =
      alike_alike (alike_then (read_same line meant i s) _) (alike_behind (fronts_read line meant (first_of meant + i)) (λ v t.
      alike_behind (fronts_expression calls c value) (λ b u.
      alike_behind (fronts_divisor line op (right_operand op (kind_of_object meant) (kind_of value) b)) (λ w x. write_same line meant i _ x) u) t) s)

  begin_operate : (line place : ℕ) (op : Binary) (meant : Object) (index : ScopedIndex) (checked : Bool) (value : ScopedExpression) (kind : Option IntType) (s : Locals)
      → let e = assign line (Some op) (lvalue place meant index checked) value kind in Alike (expression_trace calls e) s (moved calls e (begin_move e)) s
  begin_operate line place op meant whole checked value kind s =
      alike_alike (place_begins calls c place meant whole checked _ _ (λ i t. operates line place op meant whole checked value kind i t) s) alike_value
  begin_operate line place op meant (element index) checked value kind s =
      place_begins calls c place meant (element index) checked _ _ (λ i t. operates line place op meant (element index) checked value kind i t) s

  steps : (line place : ℕ) (meant : Object) (index : ScopedIndex) (checked up prefix : Bool) (kind : Option IntType) (i : ℕ) (s : Locals)
      → Alike (read_at line meant i and_then λ old_value. write_at line meant i (stepped up (kind_of_object meant) old_value) gives λ new. if prefix then new else old_value) s
      (behind_place calls (step line (lvalue place meant index checked) up prefix kind) (first_of meant + i)) s
  steps line place meant index checked up prefix kind i s =
      alike_alike (alike_then (read_same line meant i s) _) (alike_behind (fronts_read line meant (first_of meant + i)) (λ v t. step_same line meant i (stepped up (kind_of_object meant) v) (λ new. if prefix then new else v) t) s)
    where
      step_same : (line : ℕ) (meant : Object) (i v : ℕ) (f : ℕ → ℕ) (s : Locals) → Alike (write_at line meant i v gives f) s (write_element line meant (first_of meant + i) v gives f) s
      step_same line (Local f len kind) i v g s = alike_same
      step_same line (Cell f len kind) i v g s = alike_same
      step_same line (Mutex f len) i v g s = alike_same
      step_same line (Cond f len) i v g s = alike_same
      step_same line (Handle f len) i v g s = alike_same
      step_same line (Routine function) i v g s = alike_same
      step_same line (Known name) i v g s = alike_same

  begin_step : (line place : ℕ) (meant : Object) (index : ScopedIndex) (checked up prefix : Bool) (kind : Option IntType) (s : Locals)
      → let e = step line (lvalue place meant index checked) up prefix kind in Alike (expression_trace calls e) s (moved calls e (begin_move e)) s
  begin_step line place meant whole checked up prefix kind s =
      alike_alike (place_begins calls c place meant whole checked _ _ (λ i t. steps line place meant whole checked up prefix kind i t) s) alike_value
  begin_step line place meant (element index) checked up prefix kind s =
      place_begins calls c place meant (element index) checked _ _ (λ i t. steps line place meant (element index) checked up prefix kind i t) s

  begins : (e : ScopedExpression) (s : Locals) → Alike (expression_trace calls e) s (moved calls e (begin_move e)) s
  begins (constant line value form kind) s = alike_same
  begins (null line kind) s = alike_same
  begins (text line kind) s = alike_same
  begins (object (lvalue place meant index checked) kind) s = begin_object place meant index checked kind s
  begins (address line (lvalue place meant index checked) kind) s = begin_address line place meant index checked kind s
  begins (paren line inner kind) s = alike_ends (fronts_expression calls c inner) s
  begins (unary line op of kind) s = alike_gives (fronts_expression calls c of) _ s
  begins (cast line to of kind) s = alike_gives (fronts_expression calls c of) _ s
  begins (binary line op left right kind) s = alike_same
  begins (choose line test one two kind) s = alike_same
  begins (assign line None (lvalue place meant index checked) value kind) s = begin_assign line place meant index checked value kind s
  begins (assign line (Some op) (lvalue place meant index checked) value kind) s = begin_operate line place op meant index checked value kind s
  begins (step line (lvalue place meant index checked) up prefix kind) s = begin_step line place meant index checked up prefix kind s
  begins (call line callee args kind) s = call_starts calls line callee args kind s

  indexes : (e : ScopedExpression) (i : ℕ) (s : Locals) → Alike (behind_index calls e i) s (moved calls e (indexed_move e i)) s
  indexes (constant line value form kind) i s = alike_same
  indexes (null line kind) i s = alike_same
  indexes (text line kind) i s = alike_same
  indexes (object (lvalue place meant index checked) kind) i s =
      index_moves calls (object (lvalue place meant index checked) kind) (ready (first_of meant + i)) place meant index checked i _ (λ t. alike_same) s
  indexes (address line (lvalue place meant index checked) kind) i s =
      index_moves calls (address line (lvalue place meant index checked) kind) (settled i) place meant index checked i _ (λ t. alike_same) s
  indexes (paren line inner kind) i s = alike_same
  indexes (unary line op of kind) i s = alike_same
  indexes (cast line to of kind) i s = alike_same
  indexes (binary line op left right kind) i s = alike_same
  indexes (choose line test one two kind) i s = alike_same
  indexes (assign line None to value kind) i s = alike_same
  indexes (assign line (Some op) (lvalue place meant index checked) value kind) i s =
      index_moves calls (assign line (Some op) (lvalue place meant index checked) value kind) (ready (first_of meant + i)) place meant index checked i _ (λ t. alike_same) s
  indexes (step line (lvalue place meant index checked) up prefix kind) i s =
      index_moves calls (step line (lvalue place meant index checked) up prefix kind) (ready (first_of meant + i)) place meant index checked i _ (λ t. alike_same) s
  indexes (call line callee args kind) i s = alike_same

  readies : (e : ScopedExpression) (k : ℕ) (s : Locals) → Alike (behind_place calls e k) s (moved calls e (ready_move e k s)) s
  readies (constant line value form kind) k s = alike_same
  readies (null line kind) k s = alike_same
  readies (text line kind) k s = alike_same
  readies (object (lvalue place meant index checked) kind) k s =
      alike_alike (alike_ends (fronts_read place meant k) s) (read_moves calls (object (lvalue place meant index checked) kind) given place meant k _ (λ v t. alike_same) s)
  readies (address line of kind) k s = alike_same
  readies (paren line inner kind) k s = alike_same
  readies (unary line op of kind) k s = alike_same
  readies (cast line to of kind) k s = alike_same
  readies (binary line op left right kind) k s = alike_same
  readies (choose line test one two kind) k s = alike_same
  readies (assign line None to value kind) k s = alike_same
  readies (assign line (Some op) (lvalue place meant index checked) value kind) k s =
      read_moves calls (assign line (Some op) (lvalue place meant index checked) value kind) (old k) line meant k _ (λ v t. alike_same) s
  readies (step line (lvalue place meant index checked) up prefix kind) k s =
      read_moves calls (step line (lvalue place meant index checked) up prefix kind) (old k) line meant k _ (λ v t. alike_same) s
  readies (call line callee args kind) k s = alike_same

  olds : (e : ScopedExpression) (k v : ℕ) (s : Locals) → Alike (behind_read calls e k v) s (moved calls e (old_move e k v)) (old_locals e k v s)
  olds (constant line value form kind) k v s = alike_same
  olds (null line kind) k v s = alike_same
  olds (text line kind) k v s = alike_same
  olds (object of kind) k v s = alike_same
  olds (address line of kind) k v s = alike_same
  olds (paren line inner kind) k v s = alike_same
  olds (unary line op of kind) k v s = alike_same
  olds (cast line to of kind) k v s = alike_same
  olds (binary line op left right kind) k v s = alike_same
  olds (choose line test one two kind) k v s = alike_same
  olds (assign line None to value kind) k v s = alike_same
  olds (assign line (Some op) (lvalue place meant index checked) value kind) k v s = alike_same
  olds (step line (lvalue place meant index checked) up prefix kind) k v s =
      alike_alike (alike_gives (fronts_write line meant k (stepped up (kind_of_object meant) v)) _ s)
      (write_moves calls (step line (lvalue place meant index checked) up prefix kind) (settled (if prefix then stepped up (kind_of_object meant) v else v)) line meant k (stepped up (kind_of_object meant) v) _ (λ t. alike_same) s)
  olds (call line callee args kind) k v s = alike_same

  values : (e : ScopedExpression) (i v : ℕ) (s : Locals) → Alike (behind_value e i v) s (moved calls e (valued_move e i v)) s
  values (constant line value form kind) i v s = alike_same
  values (null line kind) i v s = alike_same
  values (text line kind) i v s = alike_same
  values (object of kind) i v s = alike_same
  values (address line of kind) i v s = alike_same
  values (paren line inner kind) i v s = alike_same
  values (unary line op of kind) i v s = alike_same
  values (cast line to of kind) i v s = alike_same
  values (binary line op left right kind) i v s = alike_same
  values (choose line test one two kind) i v s = alike_same
  values (assign line None (lvalue place meant index checked) value kind) i v s =
      index_moves calls (assign line None (lvalue place meant index checked) value kind) (writing (first_of meant + i) (converted v (kind_of value) (kind_of_object meant))) place meant index checked i _
      (λ t. write_same line meant i (converted v (kind_of value) (kind_of_object meant)) t) s
  values (assign line (Some op) to value kind) i v s = alike_same
  values (step line of up prefix kind) i v s = alike_same
  values (call line callee args kind) i v s = alike_same

  writes : (e : ScopedExpression) (k w : ℕ) (s : Locals) → Alike (behind_check e k w) s (moved calls e (writing_move e k w)) (writing_locals e k w s)
  writes (constant line value form kind) k w s = alike_same
  writes (null line kind) k w s = alike_same
  writes (text line kind) k w s = alike_same
  writes (object of kind) k w s = alike_same
  writes (address line of kind) k w s = alike_same
  writes (paren line inner kind) k w s = alike_same
  writes (unary line op of kind) k w s = alike_same
  writes (cast line to of kind) k w s = alike_same
  writes (binary line op left right kind) k w s = alike_same
  writes (choose line test one two kind) k w s = alike_same
  writes (assign line None (lvalue place meant index checked) value kind) k w s =
      alike_alike (alike_ends (fronts_write line meant k w) s) (write_moves calls (assign line None (lvalue place meant index checked) value kind) (settled w) line meant k w _ (λ t. alike_same) s)
  writes (assign line (Some op) (lvalue place meant index checked) value kind) k w s =
      alike_alike (alike_ends (fronts_write line meant k w) s) (write_moves calls (assign line (Some op) (lvalue place meant index checked) value kind) (settled w) line meant k w _ (λ t. alike_same) s)
  writes (step line of up prefix kind) k w s = alike_same
  writes (call line callee args kind) k w s = alike_same

  operands : (e : ScopedExpression) (k before b : ℕ) (s : Locals) → Alike (behind_operand e k before b) s (moved calls e (operand_move e k before b)) s
  operands (constant line value form kind) k before b s = alike_same
  operands (null line kind) k before b s = alike_same
  operands (text line kind) k before b s = alike_same
  operands (object of kind) k before b s = alike_same
  operands (address line of kind) k before b s = alike_same
  operands (paren line inner kind) k before b s = alike_same
  operands (unary line op of kind) k before b s = alike_same
  operands (cast line to of kind) k before b s = alike_same
  operands (binary line op left right kind) k before b s = alike_same
  operands (choose line test one two kind) k before b s = alike_same
  operands (assign line None to value kind) k before b s = alike_same
  operands (assign line (Some op) (lvalue place meant index checked) value kind) k before b s =
      divide_moves calls (assign line (Some op) (lvalue place meant index checked) value kind) (writing k (assigned op (kind_of_object meant) (kind_of value) before b)) (is_division op) line (right_operand op (kind_of_object meant) (kind_of value) b) _ (λ t. alike_same) s
  operands (step line of up prefix kind) k before b s = alike_same
  operands (call line callee args kind) k before b s = alike_same

  -- behind the left operand of an operator
  lefts : (line : ℕ) (op : Binary) (left right : ScopedExpression) (kind : Option IntType) (a : ℕ) (s : Locals)
      → let e = binary line op left right kind in Alike (behind_first line op (kind_of left) (kind_of right) (expression_trace calls right) a) s (moved calls e (left_move op a)) s
  lefts line ops.Both left right kind a s = alike_alike (alike_loc line stays zero _ s) (by (is_true a))
    where
      by : (b : Bool) → Alike (picks b (expression_trace calls right gives λ b. truth (is_true b)) (ends_with (truth false))) s (moved calls (binary line ops.Both left right kind) (both_move b a)) s
      by true = alike_gives (fronts_expression calls c right) _ s
      by false = alike_same
  lefts line ops.Either left right kind a s = alike_alike (alike_loc line stays zero _ s) (by (is_true a))
    where
      by : (b : Bool) → Alike (picks b (ends_with (truth true)) (expression_trace calls right gives λ b. truth (is_true b))) s (moved calls (binary line ops.Either left right kind) (either_move b a)) s
      by true = alike_same
      by false = alike_gives (fronts_expression calls c right) _ s
  lefts line ops.Mul left right kind a s = alike_same
  lefts line ops.Div left right kind a s = alike_same
  lefts line ops.Rem left right kind a s = alike_same
  lefts line ops.Add left right kind a s = alike_same
  lefts line ops.Sub left right kind a s = alike_same
  lefts line ops.Shl left right kind a s = alike_same
  lefts line ops.Shr left right kind a s = alike_same
  lefts line ops.Lt left right kind a s = alike_same
  lefts line ops.Gt left right kind a s = alike_same
  lefts line ops.Le left right kind a s = alike_same
  lefts line ops.Ge left right kind a s = alike_same
  lefts line ops.Eq left right kind a s = alike_same
  lefts line ops.Ne left right kind a s = alike_same
  lefts line ops.BitAnd left right kind a s = alike_same
  lefts line ops.BitXor left right kind a s = alike_same
  lefts line ops.BitOr left right kind a s = alike_same

  chooses_so : (line : ℕ) (test one two : ScopedExpression) (kind : Option IntType) (a : ℕ) (s : Locals)
      → let e = choose line test one two kind in Alike (behind_one calls e a) s (moved calls e (chosen_move (is_true a))) s
  chooses_so line test one two kind a s = alike_alike (alike_loc line stays (is_true a) _ s) (by (is_true a))
    where
      by : (b : Bool) → Alike (picks b (expression_trace calls one gives λ v. converted v (kind_of one) (kind_or kind)) (expression_trace calls two gives λ v. converted v (kind_of two) (kind_or kind))) s
          (moved calls (choose line test one two kind) (chosen_move b)) s
      by true = alike_gives (fronts_expression calls c one) _ s
      by false = alike_gives (fronts_expression calls c two) _ s

  firsts : (e : ScopedExpression) (a : ℕ) (s : Locals) → Alike (behind_one calls e a) s (moved calls e (first_move e a)) s
  firsts (constant line value form kind) a s = alike_same
  firsts (null line kind) a s = alike_same
  firsts (text line kind) a s = alike_same
  firsts (object of kind) a s = alike_same
  firsts (address line of kind) a s = alike_same
  firsts (paren line inner kind) a s = alike_same
  firsts (unary line op of kind) a s = alike_same
  firsts (cast line to of kind) a s = alike_same
  firsts (binary line op left right kind) a s = lefts line op left right kind a s
  firsts (choose line test one two kind) a s = chooses_so line test one two kind a s
  firsts (assign line None to value kind) a s = alike_same
  firsts (assign line (Some op) to value kind) a s = alike_same
  firsts (step line of up prefix kind) a s = alike_same
  firsts (call line callee args kind) a s = alike_same

  rights : (line : ℕ) (op : Binary) (left right : ScopedExpression) (kind : Option IntType) (a b : ℕ) (s : Locals)
      → let e = binary line op left right kind in Alike (right_trace op line (kind_of left) (kind_of right) a b) s (moved calls e (right_move op line (kind_of left) (kind_of right) a b)) s
  rights line ops.Both left right kind a b s = alike_same
  rights line ops.Either left right kind a b s = alike_same
  rights line ops.Mul left right kind a b s =
      alike_alike (alike_gives (fronts_divisor line ops.Mul (right_operand ops.Mul (kind_of left) (kind_of right) b)) _ s)
      (divide_moves calls (binary line ops.Mul left right kind) (settled (operated ops.Mul (kind_of left) (kind_of right) a b)) (is_division ops.Mul) line (right_operand ops.Mul (kind_of left) (kind_of right) b) _ (λ t. alike_same) s)
  rights line ops.Div left right kind a b s =
      alike_alike (alike_gives (fronts_divisor line ops.Div (right_operand ops.Div (kind_of left) (kind_of right) b)) _ s)
      (divide_moves calls (binary line ops.Div left right kind) (settled (operated ops.Div (kind_of left) (kind_of right) a b)) (is_division ops.Div) line (right_operand ops.Div (kind_of left) (kind_of right) b) _ (λ t. alike_same) s)
  rights line ops.Rem left right kind a b s =
      alike_alike (alike_gives (fronts_divisor line ops.Rem (right_operand ops.Rem (kind_of left) (kind_of right) b)) _ s)
      (divide_moves calls (binary line ops.Rem left right kind) (settled (operated ops.Rem (kind_of left) (kind_of right) a b)) (is_division ops.Rem) line (right_operand ops.Rem (kind_of left) (kind_of right) b) _ (λ t. alike_same) s)
  rights line ops.Add left right kind a b s =
      alike_alike (alike_gives (fronts_divisor line ops.Add (right_operand ops.Add (kind_of left) (kind_of right) b)) _ s)
      (divide_moves calls (binary line ops.Add left right kind) (settled (operated ops.Add (kind_of left) (kind_of right) a b)) (is_division ops.Add) line (right_operand ops.Add (kind_of left) (kind_of right) b) _ (λ t. alike_same) s)
  rights line ops.Sub left right kind a b s =
      alike_alike (alike_gives (fronts_divisor line ops.Sub (right_operand ops.Sub (kind_of left) (kind_of right) b)) _ s)
      (divide_moves calls (binary line ops.Sub left right kind) (settled (operated ops.Sub (kind_of left) (kind_of right) a b)) (is_division ops.Sub) line (right_operand ops.Sub (kind_of left) (kind_of right) b) _ (λ t. alike_same) s)
  rights line ops.Shl left right kind a b s =
      alike_alike (alike_gives (fronts_divisor line ops.Shl (right_operand ops.Shl (kind_of left) (kind_of right) b)) _ s)
      (divide_moves calls (binary line ops.Shl left right kind) (settled (operated ops.Shl (kind_of left) (kind_of right) a b)) (is_division ops.Shl) line (right_operand ops.Shl (kind_of left) (kind_of right) b) _ (λ t. alike_same) s)
  rights line ops.Shr left right kind a b s =
      alike_alike (alike_gives (fronts_divisor line ops.Shr (right_operand ops.Shr (kind_of left) (kind_of right) b)) _ s)
      (divide_moves calls (binary line ops.Shr left right kind) (settled (operated ops.Shr (kind_of left) (kind_of right) a b)) (is_division ops.Shr) line (right_operand ops.Shr (kind_of left) (kind_of right) b) _ (λ t. alike_same) s)
  rights line ops.Lt left right kind a b s =
      alike_alike (alike_gives (fronts_divisor line ops.Lt (right_operand ops.Lt (kind_of left) (kind_of right) b)) _ s)
      (divide_moves calls (binary line ops.Lt left right kind) (settled (operated ops.Lt (kind_of left) (kind_of right) a b)) (is_division ops.Lt) line (right_operand ops.Lt (kind_of left) (kind_of right) b) _ (λ t. alike_same) s)
  rights line ops.Gt left right kind a b s =
      alike_alike (alike_gives (fronts_divisor line ops.Gt (right_operand ops.Gt (kind_of left) (kind_of right) b)) _ s)
      (divide_moves calls (binary line ops.Gt left right kind) (settled (operated ops.Gt (kind_of left) (kind_of right) a b)) (is_division ops.Gt) line (right_operand ops.Gt (kind_of left) (kind_of right) b) _ (λ t. alike_same) s)
  rights line ops.Le left right kind a b s =
      alike_alike (alike_gives (fronts_divisor line ops.Le (right_operand ops.Le (kind_of left) (kind_of right) b)) _ s)
      (divide_moves calls (binary line ops.Le left right kind) (settled (operated ops.Le (kind_of left) (kind_of right) a b)) (is_division ops.Le) line (right_operand ops.Le (kind_of left) (kind_of right) b) _ (λ t. alike_same) s)
  rights line ops.Ge left right kind a b s =
      alike_alike (alike_gives (fronts_divisor line ops.Ge (right_operand ops.Ge (kind_of left) (kind_of right) b)) _ s)
      (divide_moves calls (binary line ops.Ge left right kind) (settled (operated ops.Ge (kind_of left) (kind_of right) a b)) (is_division ops.Ge) line (right_operand ops.Ge (kind_of left) (kind_of right) b) _ (λ t. alike_same) s)
  rights line ops.Eq left right kind a b s =
      alike_alike (alike_gives (fronts_divisor line ops.Eq (right_operand ops.Eq (kind_of left) (kind_of right) b)) _ s)
      (divide_moves calls (binary line ops.Eq left right kind) (settled (operated ops.Eq (kind_of left) (kind_of right) a b)) (is_division ops.Eq) line (right_operand ops.Eq (kind_of left) (kind_of right) b) _ (λ t. alike_same) s)
  rights line ops.Ne left right kind a b s =
      alike_alike (alike_gives (fronts_divisor line ops.Ne (right_operand ops.Ne (kind_of left) (kind_of right) b)) _ s)
      (divide_moves calls (binary line ops.Ne left right kind) (settled (operated ops.Ne (kind_of left) (kind_of right) a b)) (is_division ops.Ne) line (right_operand ops.Ne (kind_of left) (kind_of right) b) _ (λ t. alike_same) s)
  rights line ops.BitAnd left right kind a b s =
      alike_alike (alike_gives (fronts_divisor line ops.BitAnd (right_operand ops.BitAnd (kind_of left) (kind_of right) b)) _ s)
      (divide_moves calls (binary line ops.BitAnd left right kind) (settled (operated ops.BitAnd (kind_of left) (kind_of right) a b)) (is_division ops.BitAnd) line (right_operand ops.BitAnd (kind_of left) (kind_of right) b) _ (λ t. alike_same) s)
  rights line ops.BitXor left right kind a b s =
      alike_alike (alike_gives (fronts_divisor line ops.BitXor (right_operand ops.BitXor (kind_of left) (kind_of right) b)) _ s)
      (divide_moves calls (binary line ops.BitXor left right kind) (settled (operated ops.BitXor (kind_of left) (kind_of right) a b)) (is_division ops.BitXor) line (right_operand ops.BitXor (kind_of left) (kind_of right) b) _ (λ t. alike_same) s)
  rights line ops.BitOr left right kind a b s =
      alike_alike (alike_gives (fronts_divisor line ops.BitOr (right_operand ops.BitOr (kind_of left) (kind_of right) b)) _ s)
      (divide_moves calls (binary line ops.BitOr left right kind) (settled (operated ops.BitOr (kind_of left) (kind_of right) a b)) (is_division ops.BitOr) line (right_operand ops.BitOr (kind_of left) (kind_of right) b) _ (λ t. alike_same) s)

  seconds : (e : ScopedExpression) (a b : ℕ) (s : Locals) → Alike (behind_two e a b) s (moved calls e (second_move e a b)) s
  seconds (constant line value form kind) a b s = alike_same
  seconds (null line kind) a b s = alike_same
  seconds (text line kind) a b s = alike_same
  seconds (object of kind) a b s = alike_same
  seconds (address line of kind) a b s = alike_same
  seconds (paren line inner kind) a b s = alike_same
  seconds (unary line op of kind) a b s = alike_same
  seconds (cast line to of kind) a b s = alike_same
  seconds (binary line op left right kind) a b s = rights line op left right kind a b s
  seconds (choose line test one two kind) a b s = alike_same
  seconds (assign line None to value kind) a b s = alike_same
  seconds (assign line (Some op) to value kind) a b s = alike_same
  seconds (step line of up prefix kind) a b s = alike_same
  seconds (call line callee args kind) a b s = alike_same

  takens : (e : ScopedExpression) (a : ℕ) (s : Locals) → Alike (behind_taken e a) s (moved calls e (branch_move true e a)) s
  takens (constant line value form kind) a s = alike_same
  takens (null line kind) a s = alike_same
  takens (text line kind) a s = alike_same
  takens (object of kind) a s = alike_same
  takens (address line of kind) a s = alike_same
  takens (paren line inner kind) a s = alike_same
  takens (unary line op of kind) a s = alike_same
  takens (cast line to of kind) a s = alike_same
  takens (binary line op left right kind) a s = alike_same
  takens (choose line test one two kind) a s = alike_same
  takens (assign line None to value kind) a s = alike_same
  takens (assign line (Some op) to value kind) a s = alike_same
  takens (step line of up prefix kind) a s = alike_same
  takens (call line callee args kind) a s = alike_same

  others : (e : ScopedExpression) (a : ℕ) (s : Locals) → Alike (behind_other e a) s (moved calls e (branch_move false e a)) s
  others (constant line value form kind) a s = alike_same
  others (null line kind) a s = alike_same
  others (text line kind) a s = alike_same
  others (object of kind) a s = alike_same
  others (address line of kind) a s = alike_same
  others (paren line inner kind) a s = alike_same
  others (unary line op of kind) a s = alike_same
  others (cast line to of kind) a s = alike_same
  others (binary line op left right kind) a s = alike_same
  others (choose line test one two kind) a s = alike_same
  others (assign line None to value kind) a s = alike_same
  others (assign line (Some op) to value kind) a s = alike_same
  others (step line of up prefix kind) a s = alike_same
  others (call line callee args kind) a s = alike_same

  -- what is left at a stage is what the node's next move leads to, Loc left out
  pub turns_so : (e : ScopedExpression) (stage : Stage) (v : ℕ) (s : Locals) → Alike (stage_trace calls e stage v) s (moved calls e (turn_of e stage v s)) (left_by e stage v s)
  turns_so e start v s = begins e s
  turns_so e given v s = alike_same
  turns_so e (settled w) v s = alike_same
  turns_so e indexed v s = indexes e v s
  turns_so e (ready k) v s = readies e k s
  turns_so e (old k) v s = olds e k v s
  turns_so e (valued i) v s = values e i v s
  turns_so e (writing k w) v s = writes e k w s
  turns_so e (operand k w) v s = operands e k w v s
  turns_so e first v s = firsts e v s
  turns_so e (second a) v s = seconds e a v s
  turns_so e taken v s = takens e v s
  turns_so e other v s = others e v s
  turns_so e (calling vs) v s = callings calls c e (called e) refl vs s
  turns_so e (argument vs) v s = argument_behind calls c e (called e) refl vs v s
  turns_so e (passing os k) v s = passings calls c e (called e) refl os k s
  turns_so e (handed os k) v s = handed_behind calls c e (called e) refl os k v s
  turns_so e (arguing os vs k) v s = arguings calls c e (called e) refl os vs k s
  turns_so e (argued os vs k) v s = argued_behind calls c e (called e) refl os vs k v s
  turns_so e (woken cond mutex) v s = wokens calls c e (called e) cond mutex s
  turns_so e (made handle) v s = mades calls c e (called e) handle v s
