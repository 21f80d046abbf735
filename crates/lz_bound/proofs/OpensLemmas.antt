-- Code may be cut at once.
use Rattle.std.proofs.Common.{ℕ, zero, suc, Bool, true, false, Some, None, inl, refl, arith}
use Rattle.lz_base.specs.declared.word.IntType.{IntType}
use Rattle.lz_tree.specs.declared.scoped.Object.{Object}
use Rattle.lz_tree.specs.declared.scoped.Object.TheVariants.{Local, Cell, Mutex, Cond, Handle, Routine, Known}
use Rattle.lz_tree.specs.ScopedTrees.{ScopedExpression, constant, null, text, object, address, paren, unary, cast, binary, choose, assign, step, call, lvalue, ScopedIndex, whole, element, ScopedExpressions, none, and}
use Rattle.lz_model.specs.Behaviours.{Behaviour, ends_with, halts, leaves, updates, ◌and_then◌, ◌gives◌, picks}
use Rattle.lz_model.specs.CodeTraces.{Calls, no_calls, inputs, arbitrary_trace, zeros_trace, no_threads_trace, is_object_argument, expression_trace, index_trace, arguments_trace, objects_trace, handed_trace}
use Rattle.lz_agree.specs.Correspondence.{Opens}
use Rattle.lz_bound.specs.BoundedTrees.{BoundedStatement, evals, fresh, clear, nothing, seq, when, frame, leave, exit, stuck, inside}
use Rattle.lz_bound.specs.BoundedTraces.{freshens, clears, bounded_trace}

module _ {S A B : Type 0} where
  opens_then : {P : Behaviour S A} {next : A → Behaviour S B} → Opens P → Opens (P and_then next)
  opens_then p = record { opens = λ s. record { is = inl (p.opens s) } }

  opens_gives : {P : Behaviour S A} {f : A → B} → Opens P → Opens (P gives f)
  opens_gives p = record { opens = λ s. record { is = p.opens s } }

module _ {S A : Type 0} where
  pub opens_value : {a : A} → Opens {S = S} (ends_with a)
  opens_value = record { opens = λ s. record { is = refl } }

  opens_halts : Opens {S = S} {A = A} halts
  opens_halts = record { opens = λ s. record { is = refl } }

  opens_leaves : {w : Bool} → Opens {S = S} {A = A} (leaves w)
  opens_leaves = record { opens = λ s. record { is = refl } }

  opens_picks : (b : Bool) {P Q : Behaviour S A} → Opens P → Opens Q → Opens (picks b P Q)
  opens_picks true p q = p
  opens_picks false p q = q

mutual
  -- an expression
  pub opens_expression : (calls : Calls) (e : ScopedExpression) → Opens (expression_trace calls e)
  opens_expression calls (constant line value form kind) = opens_value
  opens_expression calls (null line kind) = opens_value
  opens_expression calls (text line kind) = opens_value
  opens_expression calls (object (lvalue line meant index checked) kind) = opens_then (opens_then (opens_index calls index))
  opens_expression calls (address line (lvalue at meant index checked) kind) = opens_then (opens_index calls index)
  opens_expression calls (paren line e kind) = opens_expression calls e
  opens_expression calls (unary line op e kind) = opens_gives (opens_expression calls e)
  opens_expression calls (cast line to e kind) = opens_gives (opens_expression calls e)
  opens_expression calls (binary line op a b kind) = opens_then (opens_expression calls a)
  opens_expression calls (choose line a b c kind) = opens_then (opens_expression calls a)
  opens_expression calls (assign line None (lvalue at meant index checked) e kind) = opens_then (opens_index calls index)
  opens_expression calls (assign line (Some op) (lvalue at meant index checked) e kind) = opens_then (opens_then (opens_index calls index))
  opens_expression calls (step line (lvalue at meant index checked) up before kind) = opens_then (opens_then (opens_index calls index))
  opens_expression calls (call line (Routine function) args kind) = opens_then (opens_arguments calls args)
  opens_expression calls (call line (Known name) args kind) = opens_then (opens_objects calls args)
  opens_expression calls (call line (Local first len k) args kind) = opens_halts
  opens_expression calls (call line (Cell first len k) args kind) = opens_halts
  opens_expression calls (call line (Mutex first len) args kind) = opens_halts
  opens_expression calls (call line (Cond first len) args kind) = opens_halts
  opens_expression calls (call line (Handle first len) args kind) = opens_halts

  opens_index : (calls : Calls) (index : ScopedIndex) → Opens (index_trace calls index)
  opens_index calls whole = opens_value
  opens_index calls (element e) = opens_expression calls e

  opens_arguments : (calls : Calls) (es : ScopedExpressions) → Opens (arguments_trace calls es)
  opens_arguments calls none = opens_value
  opens_arguments calls (and e rest) = opens_then (opens_expression calls e)

  opens_objects : (calls : Calls) (es : ScopedExpressions) → Opens (objects_trace calls es)
  opens_objects calls none = opens_value
  opens_objects calls (and e rest) = opens_picks (is_object_argument e) (opens_then (opens_handed calls e)) (opens_objects calls rest)

  opens_handed : (calls : Calls) (e : ScopedExpression) → Opens (handed_trace calls e)
  opens_handed calls (address line (lvalue at meant index checked) kind) = opens_gives (opens_then (opens_index calls index))
  opens_handed calls (object (lvalue at meant index checked) kind) = opens_gives (opens_then (opens_index calls index))
  opens_handed calls (constant line value form kind) = opens_halts
  opens_handed calls (null line kind) = opens_halts
  opens_handed calls (text line kind) = opens_halts
  opens_handed calls (paren line e kind) = opens_halts
  opens_handed calls (unary line op e kind) = opens_halts
  opens_handed calls (cast line to e kind) = opens_halts
  opens_handed calls (binary line op a b kind) = opens_halts
  opens_handed calls (choose line a b c kind) = opens_halts
  opens_handed calls (assign line op to e kind) = opens_halts
  opens_handed calls (step line of up before kind) = opens_halts
  opens_handed calls (call line callee args kind) = opens_halts

opens_inputs : (line : ℕ) (kind : IntType) → Opens (inputs line kind)
opens_inputs line kind = record { opens = λ s. record { value = 0; fits = omega arith; is = record { is = inl refl } } }

opens_loc : {S A : Type 0} {act : _} {change : S → S} {a : A} → Opens (updates act change a)
opens_loc = record { opens = λ s. record { is = inl refl } }

opens_fresh : (line : ℕ) (kind : IntType) (i n : ℕ) → Opens (arbitrary_trace line kind i n)
opens_fresh line kind i zero = opens_value
opens_fresh line kind i (suc n) = opens_then (opens_inputs 0 kind)

opens_zeros : (line i n : ℕ) → Opens (zeros_trace line i n)
opens_zeros line i zero = opens_value
opens_zeros line i (suc n) = opens_then opens_loc

opens_no_threads : (line i n : ℕ) → Opens (no_threads_trace line i n)
opens_no_threads line i zero = opens_value
opens_no_threads line i (suc n) = opens_then opens_loc

opens_freshens : (x : Object) → Opens (freshens x)
opens_freshens (Local first len kind) = opens_gives (opens_fresh 0 kind first len)
opens_freshens (Cell first len kind) = opens_halts
opens_freshens (Mutex first len) = opens_halts
opens_freshens (Cond first len) = opens_halts
opens_freshens (Handle first len) = opens_halts
opens_freshens (Routine function) = opens_halts
opens_freshens (Known name) = opens_halts

opens_clears : (x : Object) → Opens (clears x)
opens_clears (Local first len kind) = opens_gives (opens_zeros 0 first len)
opens_clears (Handle first len) = opens_gives (opens_no_threads 0 first len)
opens_clears (Cell first len kind) = opens_halts
opens_clears (Mutex first len) = opens_halts
opens_clears (Cond first len) = opens_halts
opens_clears (Routine function) = opens_halts
opens_clears (Known name) = opens_halts

-- a tree
pub opens_tree : (b : BoundedStatement) → Opens (bounded_trace b)
opens_tree (evals e to) = opens_then (opens_expression no_calls e)
opens_tree (fresh x) = opens_freshens x
opens_tree (clear x) = opens_clears x
opens_tree nothing = opens_value
opens_tree (seq a b) = opens_then (opens_tree a)
opens_tree (when test a b) = opens_then (opens_expression no_calls test)
opens_tree (frame number body) = opens_gives (opens_tree body)
opens_tree (leave number) = opens_value
opens_tree (exit w) = opens_leaves
opens_tree stuck = opens_halts
opens_tree (inside line index len) = opens_then (opens_expression no_calls index)
