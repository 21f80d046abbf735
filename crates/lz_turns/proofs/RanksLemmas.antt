-- Each turn of a node brings it nearer to its last stage.
use Rattle.std.proofs.Common.{◌≡◌, ℕ, zero, suc, ◌+◌, ◌*◌, ◌-◌, ◌<◌, max, Bool, true, false, List, [], ◌∷◌, ◌++◌, length, nat_lt, slice_index, Option, Some, None, refl, subst, arith, if◌then◌else◌}
use Rattle.std.specs.List.{Contains}
use Rattle.std.proofs.lemmas.List.{length_push}
use Rattle.std.proofs.lemmas.List.Elements.{Contains-push}
use Rattle.lz_base.specs.Words.{is_true, truth, converted}
use Rattle.lz_base.specs.declared.word.BreakKind.{BreakKind}
use Rattle.lz_base.specs.declared.word.BreakKind.TheVariants as kinds
use Rattle.lz_base.specs.declared.word.IntType.{IntType}
use Rattle.lz_base.specs.declared.operator.Binary.{Binary}
use Rattle.lz_base.specs.declared.operator.Binary.TheVariants as ops
use Rattle.lz_tree.specs.declared.scoped.KnownName.{KnownName}
use Rattle.lz_tree.specs.declared.scoped.KnownName.TheVariants as known
use Rattle.lz_tree.specs.declared.scoped.Object.{Object}
use Rattle.lz_tree.specs.declared.scoped.Object.TheVariants.{Local, Cell, Mutex, Cond, Handle, Routine, Known}
use Rattle.lz_tree.specs.Calls.{expression_calls, expressions_calls}
use Rattle.lz_tree.specs.ScopedTrees.{ScopedExpression, constant, null, text, object, address, paren, unary, cast, binary, choose, assign, step, call, Lvalue, lvalue, ScopedIndex, whole, element, ScopedExpressions, none, and}
use Rattle.lz_model.specs.CodeTraces.{Locals, kind_of_object, kind_of, right_operand, operated, is_division, assigned, stepped, len_of, is_handle, object_of, is_object_argument}
use Rattle.lz_turns.specs.Stages.{Stage, start, given, settled, indexed, ready, old, valued, writing, operand, first, second, taken, other, calling, argument, passing, handed, arguing, argued, woken, made}
use Rattle.lz_turns.specs.Moves.{Called, function_called, known_called, not_called, called, argument_at, arguments_of, check_move, assume_move, need_move, bound_move, index_move, divide_move, read_move, write_move, element_at, target_begins, call_begins, begin_move, indexed_move, ready_move, old_move, valued_move, writing_move, operand_move, both_move, either_move, left_move, chosen_move, first_move, right_move, second_move, branch_move, calling_so, calling_move, argument_move, handed_index, handed_target, object_so, passing_one, passing_so, passing_move, handed_one, handed_so, handed_move, known_move, value_so, arguing_so, arguing_move, argued_so, argued_move, woken_move, made_move, turn_of}
use Rattle.lz_turns.specs.Nears.{Falls}
use Rattle.lz_turns.specs.Ranks.{count, rank_of, rank}

some_below : (args : ScopedExpressions) (k : ℕ) (a : ScopedExpression) → argument_at args k ≡ Some a → k < count args
some_below none k a e = absurd cc
some_below (and x rest) zero a e = omega arith
some_below (and x rest) (suc k) a e = let h : k < count rest = some_below rest k a e in omega (arith, h)

module _ (fs : List ℕ) (n r : ℕ) (stage : Stage) (low : rank_of n stage < r) where
  check_falls : (line value : ℕ) (kind : BreakKind) → Falls fs n r (check_move line value kind stage)
  check_falls line zero kind = tt
  check_falls line (suc value) kind = tt

  assume_falls : (line value : ℕ) → Falls fs n r (assume_move line value stage)
  assume_falls line zero = tt
  assume_falls line (suc value) = tt

  need_falls : (fits : Bool) → Falls fs n r (need_move fits stage)
  need_falls true = low
  need_falls false = tt

  bound_falls : (line : ℕ) (checked fits : Bool) → Falls fs n r (bound_move line checked fits stage)
  bound_falls line true fits = need_falls fits
  bound_falls line false fits = check_falls line (truth fits) kinds.Bounds

  index_falls : (of : Lvalue) (i : ℕ) → Falls fs n r (index_move of i stage)
  index_falls (lvalue line meant whole checked) i = need_falls (nat_lt i 1)
  index_falls (lvalue line meant (element index) checked) i = bound_falls line checked (nat_lt i (len_of meant))

  divide_falls : (divides : Bool) (line divisor : ℕ) → Falls fs n r (divide_move divides line divisor stage)
  divide_falls true line divisor = check_falls line divisor kinds.DivZero
  divide_falls false line divisor = low

  read_falls : (meant : Object) (line e : ℕ) (locals : Locals) → Falls fs n r (read_move meant line e stage locals)
  read_falls (Local f len kind) line e locals = low
  read_falls (Cell f len kind) line e locals = tt
  read_falls (Mutex f len) line e locals = tt
  read_falls (Cond f len) line e locals = tt
  read_falls (Handle f len) line e locals = low
  read_falls (Routine function) line e locals = low
  read_falls (Known name) line e locals = tt

  write_falls : (meant : Object) (line e v : ℕ) → Falls fs n r (write_move meant line e v stage)
  write_falls (Local f len kind) line e v = low
  write_falls (Cell f len kind) line e v = tt
  write_falls (Mutex f len) line e v = tt
  write_falls (Cond f len) line e v = tt
  write_falls (Handle f len) line e v = tt
  write_falls (Routine function) line e v = tt
  write_falls (Known name) line e v = tt

module _ (fs : List ℕ) (n : ℕ) where
  target_falls : (of : Lvalue) → Falls fs n (4 * n + 100) (target_begins of)
  target_falls (lvalue line meant whole checked) = omega arith
  target_falls (lvalue line meant (element index) checked) = omega arith

  call_falls : (callee : Object) → Falls fs n (4 * n + 100) (call_begins callee)
  call_falls (Local f len kind) = tt
  call_falls (Cell f len kind) = tt
  call_falls (Mutex f len) = tt
  call_falls (Cond f len) = tt
  call_falls (Handle f len) = tt
  call_falls (Routine function) = omega arith
  call_falls (Known name) = omega arith

  begin_falls : (e : ScopedExpression) → Falls fs n (4 * n + 100) (begin_move e)
  begin_falls (constant line value form kind) = tt
  begin_falls (null line kind) = tt
  begin_falls (text line kind) = tt
  begin_falls (object of kind) = target_falls of
  begin_falls (address line of kind) = target_falls of
  begin_falls (paren line inner kind) = omega arith
  begin_falls (unary line op of kind) = omega arith
  begin_falls (cast line to of kind) = omega arith
  begin_falls (binary line op left right kind) = omega arith
  begin_falls (choose line test one two kind) = omega arith
  begin_falls (assign line None to value kind) = target_falls to
  begin_falls (assign line (Some op) to value kind) = target_falls to
  begin_falls (step line of up prefix kind) = target_falls of
  begin_falls (call line callee args kind) = call_falls callee

  indexed_falls : (e : ScopedExpression) (i : ℕ) → Falls fs n 19 (indexed_move e i)
  indexed_falls (constant line value form kind) i = tt
  indexed_falls (null line kind) i = tt
  indexed_falls (text line kind) i = tt
  indexed_falls (object of kind) i = index_falls fs n 19 (ready (element_at of i)) (omega arith) of i
  indexed_falls (address line of kind) i = index_falls fs n 19 (settled i) (omega arith) of i
  indexed_falls (paren line inner kind) i = tt
  indexed_falls (unary line op of kind) i = tt
  indexed_falls (cast line to of kind) i = tt
  indexed_falls (binary line op left right kind) i = tt
  indexed_falls (choose line test one two kind) i = tt
  indexed_falls (assign line None to value kind) i = omega arith
  indexed_falls (assign line (Some op) to value kind) i = index_falls fs n 19 (ready (element_at to i)) (omega arith) to i
  indexed_falls (step line of up prefix kind) i = index_falls fs n 19 (ready (element_at of i)) (omega arith) of i
  indexed_falls (call line callee args kind) i = tt

  ready_falls : (e : ScopedExpression) (k : ℕ) (s : Locals) → Falls fs n 18 (ready_move e k s)
  ready_falls (constant line value form kind) k s = tt
  ready_falls (null line kind) k s = tt
  ready_falls (text line kind) k s = tt
  ready_falls (object (lvalue place meant index checked) kind) k s = read_falls fs n 18 given (omega arith) meant place k s
  ready_falls (address line of kind) k s = tt
  ready_falls (paren line inner kind) k s = tt
  ready_falls (unary line op of kind) k s = tt
  ready_falls (cast line to of kind) k s = tt
  ready_falls (binary line op left right kind) k s = tt
  ready_falls (choose line test one two kind) k s = tt
  ready_falls (assign line None to value kind) k s = tt
  ready_falls (assign line (Some op) (lvalue place meant index checked) value kind) k s = read_falls fs n 18 (old k) (omega arith) meant line k s
  ready_falls (step line (lvalue place meant index checked) up prefix kind) k s = read_falls fs n 18 (old k) (omega arith) meant line k s
  ready_falls (call line callee args kind) k s = tt

  old_falls : (e : ScopedExpression) (k v : ℕ) → Falls fs n 17 (old_move e k v)
  old_falls (constant line value form kind) k v = tt
  old_falls (null line kind) k v = tt
  old_falls (text line kind) k v = tt
  old_falls (object of kind) k v = tt
  old_falls (address line of kind) k v = tt
  old_falls (paren line inner kind) k v = tt
  old_falls (unary line op of kind) k v = tt
  old_falls (cast line to of kind) k v = tt
  old_falls (binary line op left right kind) k v = tt
  old_falls (choose line test one two kind) k v = tt
  old_falls (assign line None to value kind) k v = tt
  old_falls (assign line (Some op) to value kind) k v = omega arith
  old_falls (step line (lvalue place meant index checked) up prefix kind) k v = write_falls fs n 17 (settled (if prefix then stepped up (kind_of_object meant) v else v)) (omega arith) meant line k (stepped up (kind_of_object meant) v)
  old_falls (call line callee args kind) k v = tt

  valued_falls : (e : ScopedExpression) (i v : ℕ) → Falls fs n 16 (valued_move e i v)
  valued_falls (constant line value form kind) i v = tt
  valued_falls (null line kind) i v = tt
  valued_falls (text line kind) i v = tt
  valued_falls (object of kind) i v = tt
  valued_falls (address line of kind) i v = tt
  valued_falls (paren line inner kind) i v = tt
  valued_falls (unary line op of kind) i v = tt
  valued_falls (cast line to of kind) i v = tt
  valued_falls (binary line op left right kind) i v = tt
  valued_falls (choose line test one two kind) i v = tt
  valued_falls (assign line None (lvalue place meant index checked) value kind) i v = index_falls fs n 16 (writing (element_at (lvalue place meant index checked) i) (converted v (kind_of value) (kind_of_object meant))) (omega arith) (lvalue place meant index checked) i
  valued_falls (assign line (Some op) to value kind) i v = tt
  valued_falls (step line of up prefix kind) i v = tt
  valued_falls (call line callee args kind) i v = tt

  writing_falls : (e : ScopedExpression) (k w : ℕ) → Falls fs n 14 (writing_move e k w)
  writing_falls (constant line value form kind) k w = tt
  writing_falls (null line kind) k w = tt
  writing_falls (text line kind) k w = tt
  writing_falls (object of kind) k w = tt
  writing_falls (address line of kind) k w = tt
  writing_falls (paren line inner kind) k w = tt
  writing_falls (unary line op of kind) k w = tt
  writing_falls (cast line to of kind) k w = tt
  writing_falls (binary line op left right kind) k w = tt
  writing_falls (choose line test one two kind) k w = tt
  writing_falls (assign line None (lvalue place meant index checked) value kind) k w = write_falls fs n 14 (settled w) (omega arith) meant line k w
  writing_falls (assign line (Some op) (lvalue place meant index checked) value kind) k w = write_falls fs n 14 (settled w) (omega arith) meant line k w
  writing_falls (step line of up prefix kind) k w = tt
  writing_falls (call line callee args kind) k w = tt

  operand_falls : (e : ScopedExpression) (k before b : ℕ) → Falls fs n 15 (operand_move e k before b)
  operand_falls (constant line value form kind) k before b = tt
  operand_falls (null line kind) k before b = tt
  operand_falls (text line kind) k before b = tt
  operand_falls (object of kind) k before b = tt
  operand_falls (address line of kind) k before b = tt
  operand_falls (paren line inner kind) k before b = tt
  operand_falls (unary line op of kind) k before b = tt
  operand_falls (cast line to of kind) k before b = tt
  operand_falls (binary line op left right kind) k before b = tt
  operand_falls (choose line test one two kind) k before b = tt
  operand_falls (assign line None to value kind) k before b = tt
  operand_falls (assign line (Some op) (lvalue place meant index checked) value kind) k before b = divide_falls fs n 15 (writing k (assigned op (kind_of_object meant) (kind_of value) before b)) (omega arith) (is_division op) line (right_operand op (kind_of_object meant) (kind_of value) b)
  operand_falls (step line of up prefix kind) k before b = tt
  operand_falls (call line callee args kind) k before b = tt

  both_falls : (b : Bool) (a : ℕ) → Falls fs n 12 (both_move b a)
  both_falls true a = omega arith
  both_falls false a = tt

  either_falls : (b : Bool) (a : ℕ) → Falls fs n 12 (either_move b a)
  either_falls true a = tt
  either_falls false a = omega arith

  left_falls : (op : Binary) (a : ℕ) → Falls fs n 12 (left_move op a)
  left_falls ops.Both a = both_falls (is_true a) a
  left_falls ops.Either a = either_falls (is_true a) a
  left_falls ops.Mul a = omega arith
  left_falls ops.Div a = omega arith
  left_falls ops.Rem a = omega arith
  left_falls ops.Add a = omega arith
  left_falls ops.Sub a = omega arith
  left_falls ops.Shl a = omega arith
  left_falls ops.Shr a = omega arith
  left_falls ops.Lt a = omega arith
  left_falls ops.Gt a = omega arith
  left_falls ops.Le a = omega arith
  left_falls ops.Ge a = omega arith
  left_falls ops.Eq a = omega arith
  left_falls ops.Ne a = omega arith
  left_falls ops.BitAnd a = omega arith
  left_falls ops.BitXor a = omega arith
  left_falls ops.BitOr a = omega arith

  chosen_falls : (b : Bool) → Falls fs n 12 (chosen_move b)
  chosen_falls true = omega arith
  chosen_falls false = omega arith

  first_falls : (e : ScopedExpression) (a : ℕ) → Falls fs n 12 (first_move e a)
  first_falls (constant line value form kind) a = tt
  first_falls (null line kind) a = tt
  first_falls (text line kind) a = tt
  first_falls (object of kind) a = tt
  first_falls (address line of kind) a = tt
  first_falls (paren line inner kind) a = tt
  first_falls (unary line op of kind) a = tt
  first_falls (cast line to of kind) a = tt
  first_falls (binary line op left right kind) a = left_falls op a
  first_falls (choose line test one two kind) a = chosen_falls (is_true a)
  first_falls (assign line None to value kind) a = tt
  first_falls (assign line (Some op) to value kind) a = tt
  first_falls (step line of up prefix kind) a = tt
  first_falls (call line callee args kind) a = tt

  right_falls : (op : Binary) (line : ℕ) (left right : IntType) (a b : ℕ) → Falls fs n 11 (right_move op line left right a b)
  right_falls ops.Both line left right a b = tt
  right_falls ops.Either line left right a b = tt
  right_falls ops.Mul line left right a b = divide_falls fs n 11 (settled (operated ops.Mul left right a b)) (omega arith) (is_division ops.Mul) line (right_operand ops.Mul left right b)
  right_falls ops.Div line left right a b = divide_falls fs n 11 (settled (operated ops.Div left right a b)) (omega arith) (is_division ops.Div) line (right_operand ops.Div left right b)
  right_falls ops.Rem line left right a b = divide_falls fs n 11 (settled (operated ops.Rem left right a b)) (omega arith) (is_division ops.Rem) line (right_operand ops.Rem left right b)
  right_falls ops.Add line left right a b = divide_falls fs n 11 (settled (operated ops.Add left right a b)) (omega arith) (is_division ops.Add) line (right_operand ops.Add left right b)
  right_falls ops.Sub line left right a b = divide_falls fs n 11 (settled (operated ops.Sub left right a b)) (omega arith) (is_division ops.Sub) line (right_operand ops.Sub left right b)
  right_falls ops.Shl line left right a b = divide_falls fs n 11 (settled (operated ops.Shl left right a b)) (omega arith) (is_division ops.Shl) line (right_operand ops.Shl left right b)
  right_falls ops.Shr line left right a b = divide_falls fs n 11 (settled (operated ops.Shr left right a b)) (omega arith) (is_division ops.Shr) line (right_operand ops.Shr left right b)
  right_falls ops.Lt line left right a b = divide_falls fs n 11 (settled (operated ops.Lt left right a b)) (omega arith) (is_division ops.Lt) line (right_operand ops.Lt left right b)
  right_falls ops.Gt line left right a b = divide_falls fs n 11 (settled (operated ops.Gt left right a b)) (omega arith) (is_division ops.Gt) line (right_operand ops.Gt left right b)
  right_falls ops.Le line left right a b = divide_falls fs n 11 (settled (operated ops.Le left right a b)) (omega arith) (is_division ops.Le) line (right_operand ops.Le left right b)
  right_falls ops.Ge line left right a b = divide_falls fs n 11 (settled (operated ops.Ge left right a b)) (omega arith) (is_division ops.Ge) line (right_operand ops.Ge left right b)
  right_falls ops.Eq line left right a b = divide_falls fs n 11 (settled (operated ops.Eq left right a b)) (omega arith) (is_division ops.Eq) line (right_operand ops.Eq left right b)
  right_falls ops.Ne line left right a b = divide_falls fs n 11 (settled (operated ops.Ne left right a b)) (omega arith) (is_division ops.Ne) line (right_operand ops.Ne left right b)
  right_falls ops.BitAnd line left right a b = divide_falls fs n 11 (settled (operated ops.BitAnd left right a b)) (omega arith) (is_division ops.BitAnd) line (right_operand ops.BitAnd left right b)
  right_falls ops.BitXor line left right a b = divide_falls fs n 11 (settled (operated ops.BitXor left right a b)) (omega arith) (is_division ops.BitXor) line (right_operand ops.BitXor left right b)
  right_falls ops.BitOr line left right a b = divide_falls fs n 11 (settled (operated ops.BitOr left right a b)) (omega arith) (is_division ops.BitOr) line (right_operand ops.BitOr left right b)

  second_falls : (e : ScopedExpression) (a b : ℕ) → Falls fs n 11 (second_move e a b)
  second_falls (constant line value form kind) a b = tt
  second_falls (null line kind) a b = tt
  second_falls (text line kind) a b = tt
  second_falls (object of kind) a b = tt
  second_falls (address line of kind) a b = tt
  second_falls (paren line inner kind) a b = tt
  second_falls (unary line op of kind) a b = tt
  second_falls (cast line to of kind) a b = tt
  second_falls (binary line op left right kind) a b = right_falls op line (kind_of left) (kind_of right) a b
  second_falls (choose line test one two kind) a b = tt
  second_falls (assign line None to value kind) a b = tt
  second_falls (assign line (Some op) to value kind) a b = tt
  second_falls (step line of up prefix kind) a b = tt
  second_falls (call line callee args kind) a b = tt

  taken_falls : (e : ScopedExpression) (a : ℕ) → Falls fs n 11 (branch_move true e a)
  taken_falls (constant line value form kind) a = tt
  taken_falls (null line kind) a = tt
  taken_falls (text line kind) a = tt
  taken_falls (object of kind) a = tt
  taken_falls (address line of kind) a = tt
  taken_falls (paren line inner kind) a = tt
  taken_falls (unary line op of kind) a = tt
  taken_falls (cast line to of kind) a = tt
  taken_falls (binary line op left right kind) a = tt
  taken_falls (choose line test one two kind) a = tt
  taken_falls (assign line None to value kind) a = tt
  taken_falls (assign line (Some op) to value kind) a = tt
  taken_falls (step line of up prefix kind) a = tt
  taken_falls (call line callee args kind) a = tt

  other_falls : (e : ScopedExpression) (a : ℕ) → Falls fs n 11 (branch_move false e a)
  other_falls (constant line value form kind) a = tt
  other_falls (null line kind) a = tt
  other_falls (text line kind) a = tt
  other_falls (object of kind) a = tt
  other_falls (address line of kind) a = tt
  other_falls (paren line inner kind) a = tt
  other_falls (unary line op of kind) a = tt
  other_falls (cast line to of kind) a = tt
  other_falls (binary line op left right kind) a = tt
  other_falls (choose line test one two kind) a = tt
  other_falls (assign line None to value kind) a = tt
  other_falls (assign line (Some op) to value kind) a = tt
  other_falls (step line of up prefix kind) a = tt
  other_falls (call line callee args kind) a = tt

module _ (fs : List ℕ) (args : ScopedExpressions) where
  calling_falls : (function : ℕ) (values : List ℕ) (o : Option ScopedExpression) → Contains fs function → argument_at args (length values) ≡ o
      → Falls fs (count args) (20 + 2 * (count args - length values)) (calling_so o function args values)
  calling_falls function values None own at = (own, omega arith, refl)
  calling_falls function values (Some a) own at = let low = some_below args (length values) a at in omega (arith, low)

  callings_fall : (d : Called) (values : List ℕ) → ((line function : ℕ) → d ≡ function_called line function → Contains fs function) → Falls fs (count args) (20 + 2 * (count args - length values)) (calling_move d args values)
  callings_fall (function_called line function) values own = calling_falls function values (argument_at args (length values)) (own line function refl) refl
  callings_fall (known_called line name) values own = tt
  callings_fall not_called values own = tt

  argument_falls : (d : Called) (values : List ℕ) (v : ℕ) → Falls fs (count args) (19 + 2 * max (count args - length values) 1) (argument_move d values v)
  argument_falls (function_called line function) values v = let e = length_push values v in omega (arith, e)
  argument_falls (known_called line name) values v = tt
  argument_falls not_called values v = tt

  handed_index_falls : (index : ScopedIndex) (objects : List ℕ) (k : ℕ) → k < count args → Falls fs (count args) (2 * count args + 31 + 2 * (count args - k)) (handed_index index objects k)
  handed_index_falls whole objects k low = omega (arith, low)
  handed_index_falls (element index) objects k low = omega (arith, low)

  handed_target_falls : (of : Lvalue) (objects : List ℕ) (k : ℕ) → k < count args → Falls fs (count args) (2 * count args + 31 + 2 * (count args - k)) (handed_target of objects k)
  handed_target_falls (lvalue line meant index checked) objects k low = handed_index_falls index objects k low

  object_falls : (b : Bool) (of : Lvalue) (objects : List ℕ) (k : ℕ) → k < count args → Falls fs (count args) (2 * count args + 31 + 2 * (count args - k)) (object_so b of objects k)
  object_falls true of objects k low = handed_target_falls of objects k low
  object_falls false of objects k low = omega (arith, low)

  passing_one_falls : (a : ScopedExpression) (objects : List ℕ) (k : ℕ) → k < count args → Falls fs (count args) (2 * count args + 31 + 2 * (count args - k)) (passing_one a objects k)
  passing_one_falls (constant line value form kind) objects k low = omega (arith, low)
  passing_one_falls (null line kind) objects k low = omega (arith, low)
  passing_one_falls (text line kind) objects k low = omega (arith, low)
  passing_one_falls (object of kind) objects k low = object_falls (is_handle (object_of of)) of objects k low
  passing_one_falls (address line of kind) objects k low = handed_target_falls of objects k low
  passing_one_falls (paren line inner kind) objects k low = omega (arith, low)
  passing_one_falls (unary line op of kind) objects k low = omega (arith, low)
  passing_one_falls (cast line to of kind) objects k low = omega (arith, low)
  passing_one_falls (binary line op left right kind) objects k low = omega (arith, low)
  passing_one_falls (choose line test one two kind) objects k low = omega (arith, low)
  passing_one_falls (step line of up prefix kind) objects k low = omega (arith, low)
  passing_one_falls (call line callee row kind) objects k low = omega (arith, low)
  passing_one_falls (assign line op to value kind) objects k low = omega (arith, low)

  passing_falls : (objects : List ℕ) (k : ℕ) (o : Option ScopedExpression) → argument_at args k ≡ o → Falls fs (count args) (2 * count args + 31 + 2 * (count args - k)) (passing_so o objects k)
  passing_falls objects k None at = omega arith
  passing_falls objects k (Some a) at = passing_one_falls a objects k (some_below args k a at)

  passings_fall : (d : Called) (objects : List ℕ) (k : ℕ) → Falls fs (count args) (2 * count args + 31 + 2 * (count args - k)) (passing_move d args objects k)
  passings_fall (known_called line name) objects k = passing_falls objects k (argument_at args k) refl
  passings_fall (function_called line function) objects k = tt
  passings_fall not_called objects k = tt

  handed_one_falls : (a : ScopedExpression) (objects : List ℕ) (k v : ℕ) → Falls fs (count args) (2 * count args + 30 + 2 * max (count args - k) 1) (handed_one a objects k v)
  handed_one_falls (constant line value form kind) objects k v = tt
  handed_one_falls (null line kind) objects k v = tt
  handed_one_falls (text line kind) objects k v = tt
  handed_one_falls (object of kind) objects k v = index_falls fs (count args) (2 * count args + 30 + 2 * max (count args - k) 1) (passing (objects ++ element_at of v ∷ []) (suc k)) (omega arith) of v
  handed_one_falls (address line of kind) objects k v = index_falls fs (count args) (2 * count args + 30 + 2 * max (count args - k) 1) (passing (objects ++ element_at of v ∷ []) (suc k)) (omega arith) of v
  handed_one_falls (paren line inner kind) objects k v = tt
  handed_one_falls (unary line op of kind) objects k v = tt
  handed_one_falls (cast line to of kind) objects k v = tt
  handed_one_falls (binary line op left right kind) objects k v = tt
  handed_one_falls (choose line test one two kind) objects k v = tt
  handed_one_falls (step line of up prefix kind) objects k v = tt
  handed_one_falls (call line callee row kind) objects k v = tt
  handed_one_falls (assign line op to value kind) objects k v = tt

  handed_falls : (d : Called) (o : Option ScopedExpression) (objects : List ℕ) (k v : ℕ) → Falls fs (count args) (2 * count args + 30 + 2 * max (count args - k) 1) (handed_so o objects k v)
  handed_falls d None objects k v = tt
  handed_falls d (Some a) objects k v = handed_one_falls a objects k v

  handeds_fall : (d : Called) (objects : List ℕ) (k v : ℕ) → Falls fs (count args) (2 * count args + 30 + 2 * max (count args - k) 1) (handed_move d args objects k v)
  handeds_fall (known_called line name) objects k v = handed_falls (known_called line name) (argument_at args k) objects k v
  handeds_fall (function_called line function) objects k v = tt
  handeds_fall not_called objects k v = tt

  known_falls : (r line : ℕ) (name : KnownName) (objects values : List ℕ) (s : Locals) → 0 < r → Falls fs (count args) r (known_move line name objects values s)
  known_falls r line known.Assert objects values s low = check_falls fs (count args) r (settled 0) low line (slice_index values 0) kinds.Assert
  known_falls r line known.Assume objects values s low = assume_falls fs (count args) r (settled 0) low line (slice_index values 0)
  known_falls r line known.NondetInt objects values s low = tt
  known_falls r line known.NondetUint objects values s low = tt
  known_falls r line known.Error objects values s low = tt
  known_falls r line known.ReachError objects values s low = tt
  known_falls r line known.Abort objects values s low = tt
  known_falls r line known.AtomicBegin objects values s low = tt
  known_falls r line known.AtomicEnd objects values s low = tt
  known_falls r line known.Create objects values s low = tt
  known_falls r line known.Join objects values s low = tt
  known_falls r line known.Exit objects values s low = tt
  known_falls r line known.MutexInit objects values s low = tt
  known_falls r line known.MutexDestroy objects values s low = tt
  known_falls r line known.MutexLock objects values s low = tt
  known_falls r line known.MutexUnlock objects values s low = tt
  known_falls r line known.CondInit objects values s low = tt
  known_falls r line known.CondDestroy objects values s low = tt
  known_falls r line known.CondWait objects values s low = tt
  known_falls r line known.CondSignal objects values s low = tt
  known_falls r line known.CondBroadcast objects values s low = tt
  known_falls r line known.Printf objects values s low = tt

  value_falls : (b : Bool) (objects values : List ℕ) (k : ℕ) → k < count args → Falls fs (count args) (20 + 2 * (count args - k)) (value_so b objects values k)
  value_falls true objects values k low = omega (arith, low)
  value_falls false objects values k low = omega (arith, low)

  arguing_falls : (line : ℕ) (name : KnownName) (objects values : List ℕ) (k : ℕ) (s : Locals) (o : Option ScopedExpression) → argument_at args k ≡ o
      → Falls fs (count args) (20 + 2 * (count args - k)) (arguing_so o line name objects values k s)
  arguing_falls line name objects values k s None at = known_falls _ line name objects values s (omega arith)
  arguing_falls line name objects values k s (Some a) at = value_falls (is_object_argument a) objects values k (some_below args k a at)

  arguings_fall : (d : Called) (objects values : List ℕ) (k : ℕ) (s : Locals) → Falls fs (count args) (20 + 2 * (count args - k)) (arguing_move d args objects values k s)
  arguings_fall (known_called line name) objects values k s = arguing_falls line name objects values k s (argument_at args k) refl
  arguings_fall (function_called line function) objects values k s = tt
  arguings_fall not_called objects values k s = tt

  argued_option_falls : (o : Option ScopedExpression) (objects values : List ℕ) (k v : ℕ) → Falls fs (count args) (19 + 2 * max (count args - k) 1) (argued_so o objects values k v)
  argued_option_falls None objects values k v = tt
  argued_option_falls (Some a) objects values k v = omega arith

  argued_falls : (d : Called) (objects values : List ℕ) (k v : ℕ) → Falls fs (count args) (19 + 2 * max (count args - k) 1) (argued_move d args objects values k v)
  argued_falls (known_called line name) objects values k v = argued_option_falls (argument_at args k) objects values k v
  argued_falls (function_called line function) objects values k v = tt
  argued_falls not_called objects values k v = tt

-- the function that a node calls is one of its expression's
called_in : (e : ScopedExpression) (line function : ℕ) → called e ≡ function_called line function → Contains (expression_calls e) function
called_in (constant line value form kind) at f is = absurd cc
called_in (null line kind) at f is = absurd cc
called_in (text line kind) at f is = absurd cc
called_in (object of kind) at f is = absurd cc
called_in (address line of kind) at f is = absurd cc
called_in (paren line inner kind) at f is = absurd cc
called_in (unary line op of kind) at f is = absurd cc
called_in (cast line to of kind) at f is = absurd cc
called_in (binary line op left right kind) at f is = absurd cc
called_in (choose line test one two kind) at f is = absurd cc
called_in (assign line op to value kind) at f is = absurd cc
called_in (step line of up prefix kind) at f is = absurd cc
called_in (call line (Local from len kind) args k) at f is = absurd cc
called_in (call line (Cell from len kind) args k) at f is = absurd cc
called_in (call line (Mutex from len) args k) at f is = absurd cc
called_in (call line (Cond from len) args k) at f is = absurd cc
called_in (call line (Handle from len) args k) at f is = absurd cc
called_in (call line (Known name) args k) at f is = absurd cc
called_in (call line (Routine function) args k) at f is = let same : function ≡ f = cc in subst (λ (x : ℕ). Contains (expressions_calls args ++ function ∷ []) x) same (Contains-push (expressions_calls args) function)

woken_falls : (fs : List ℕ) (n : ℕ) (d : Called) (cond mutex : ℕ) → Falls fs n 1 (woken_move d cond mutex)
woken_falls fs n (known_called line name) cond mutex = tt
woken_falls fs n (function_called line function) cond mutex = tt
woken_falls fs n not_called cond mutex = tt

made_falls : (fs : List ℕ) (n : ℕ) (d : Called) → Falls fs n 1 (made_move d)
made_falls fs n (known_called line name) = tt
made_falls fs n (function_called line function) = tt
made_falls fs n not_called = tt

-- each move leads below the rank of its stage, or comes to a plain action, or a call that is one of the expression
pub turn_falls : (e : ScopedExpression) (stage : Stage) (v : ℕ) (s : Locals) → Falls (expression_calls e) (count (arguments_of e)) (rank e stage) (turn_of e stage v s)
turn_falls e start v s = begin_falls (expression_calls e) (count (arguments_of e)) e
turn_falls e given v s = tt
turn_falls e (settled w) v s = tt
turn_falls e indexed v s = indexed_falls (expression_calls e) (count (arguments_of e)) e v
turn_falls e (ready k) v s = ready_falls (expression_calls e) (count (arguments_of e)) e k s
turn_falls e (old k) v s = old_falls (expression_calls e) (count (arguments_of e)) e k v
turn_falls e (valued i) v s = valued_falls (expression_calls e) (count (arguments_of e)) e i v
turn_falls e (writing k w) v s = writing_falls (expression_calls e) (count (arguments_of e)) e k w
turn_falls e (operand k w) v s = operand_falls (expression_calls e) (count (arguments_of e)) e k w v
turn_falls e first v s = first_falls (expression_calls e) (count (arguments_of e)) e v
turn_falls e (second a) v s = second_falls (expression_calls e) (count (arguments_of e)) e a v
turn_falls e taken v s = taken_falls (expression_calls e) (count (arguments_of e)) e v
turn_falls e other v s = other_falls (expression_calls e) (count (arguments_of e)) e v
turn_falls e (calling vs) v s = callings_fall (expression_calls e) (arguments_of e) (called e) vs (called_in e)
turn_falls e (argument vs) v s = argument_falls (expression_calls e) (arguments_of e) (called e) vs v
turn_falls e (passing os k) v s = passings_fall (expression_calls e) (arguments_of e) (called e) os k
turn_falls e (handed os k) v s = handeds_fall (expression_calls e) (arguments_of e) (called e) os k v
turn_falls e (arguing os vs k) v s = arguings_fall (expression_calls e) (arguments_of e) (called e) os vs k s
turn_falls e (argued os vs k) v s = argued_falls (expression_calls e) (arguments_of e) (called e) os vs k v
turn_falls e (woken cond mutex) v s = woken_falls (expression_calls e) (count (arguments_of e)) (called e) cond mutex
turn_falls e (made handle) v s = made_falls (expression_calls e) (count (arguments_of e)) (called e)
