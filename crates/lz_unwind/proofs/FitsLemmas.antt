-- Inlined expressions keep the rules: each new number has one kind.
use Rattle.std.proofs.Common.{◌≡◌, ℕ, suc, ◌+◌, ◌-◌, ◌<◌, ◌≤◌, ◌||◌, nat_lt, Bool, true, false, List, [], ◌∷◌, Option, Some, None, if◌then◌else◌, refl, sym, ap, ◌∙◌, subst, arith, add-zero, le_refl, le_trans}
use Rattle.std.specs.Prelude.{slice_index_or, ⊤}
use Rattle.std.proofs.lemmas.Bool.{lt-ltb, le-ltb}
use Rattle.lz_base.specs.Words.{value_bound}
use Rattle.lz_base.specs.declared.word.IntType.{IntType}
use Rattle.lz_base.specs.declared.word.IntType.TheVariants.{Int, Unsigned}
use Rattle.lz_base.specs.declared.operator.Binary.{Binary}
use Rattle.lz_base.specs.declared.operator.Binary.TheVariants as ops
use Rattle.lz_tree.specs.declared.scoped.KnownName.{KnownName}
use Rattle.lz_tree.specs.declared.scoped.KnownName.TheVariants as known
use Rattle.lz_tree.specs.declared.scoped.Object.{Object}
use Rattle.lz_model.specs.CodeTraces.{is_object_argument}
use Rattle.std.proofs.lemmas.Bool.{false≢true}
use Rattle.lz_tree.specs.declared.scoped.Object.TheVariants.{Local, Cell, Mutex, Cond, Handle, Routine, Known}
use Rattle.lz_tree.specs.Kinds.{kind_of, kind_or, kind_of_object, len_of, value_kind, way_of}
use Rattle.lz_tree.specs.ScopedTrees.{ScopedExpression, constant, null, text, object, address, paren, unary, cast, binary, choose, assign, step, call, lvalue, ScopedIndex, whole, element, ScopedExpressions, none, and, ScopedProgram, function_at}
use Rattle.lz_tree.specs.WellScoped.{AreArguments, takes_more, forms_of, IsMutex, IsCond, IsThread, Form, some_value, no_attribute, format, start, new_thread, made_thread, mutex, cond, IsArgument, IsIndexed, IsNoAttribute, meant_by, result_of, Setting, IsLength, IsInteger, kind_at, HasValue, IsScoped, IsIndex, AreValues, number_of, IsWellScoped, MayCall, setting_of}
use Rattle.lz_bound.specs.BoundedTrees.{evals}
use Rattle.lz_bound.specs.WellFormed.{local_limit, IsTree, IsStored}
use Rattle.lz_unwind.specs.Moved.{shift_all, moved, shift, has_call, index_has_call, all_have_call}
use Rattle.lz_unwind.specs.Pieces.{at_place, inside_place, Made, Inliner, unless_call, local, temp, store, target_of, at_temp, inside_of, tested, int_constant, truth_of, operands, head_kind, tail_kinds, shape_of}
use Rattle.lz_unwind.specs.Translation.{handed_into, printed_into, discarded, into, index_into, arguments_into, known_into}
use Rattle.lz_unwind.specs.Inlining.{callees}
use Rattle.lz_unwind.proofs.MovedLemmas.{len_of-moved, kind_of_object-moved}
use Rattle.lz_unwind.proofs.GrowsLemmas.{handed_grows, printed_grows, discarded_grows, into_grows, index_grows, arguments_grows}
use Rattle.lz_unwind.proofs.PiecesLemmas.{index_in, more_values, takes_object, thing_handed, rest_calls_none}
use Rattle.lz_unwind.proofs.SitesLemmas.{attribute_calls_none}
use Rattle.lz_unwind.proofs.ScopedLemmas.{mutex_moved, cond_moved, thread_moved, start_moved, argument_moved, arguments_moved, indexed_moved, target, IsFramed, integer_moved, scoped_moved}

-- ---- kinds of new numbers

-- The numbers from m on, up to the next one, may be given kinds so that this holds of all kinds that agree on them.
pub record Kinded (m next : ℕ) (P : (ℕ → IntType) → Type 0) : Type 0 where
  pub kinds : ℕ → IntType
  pub fits : (K : ℕ → IntType) → ((k : ℕ) → m ≤ k → k < next → K k ≡ kinds k) → P K

-- no new number
pub kinded_none : {m : ℕ} {P : (ℕ → IntType) → Type 0} → ((K : ℕ → IntType) → P K) → Kinded m m P
kinded_none h = record { kinds = λ k. Int; fits = λ K e. h K }

-- one new number
pub kinded_temp : (m : ℕ) (kind : IntType) → Kinded m (suc m) (λ K. K m ≡ kind)
kinded_temp m kind = record { kinds = λ k. kind; fits = λ K e. e m (le_refl m) (omega arith) }

-- some numbers, and then others
pub kinded_two : {m m1 m2 : ℕ} {P Q : (ℕ → IntType) → Type 0} → m ≤ m1 → m1 ≤ m2 → Kinded m m1 P → Kinded m1 m2 Q → Kinded m m2 (λ K. P K × Q K)
kinded_two {m} {m1} {m2} a b p q = record {
  kinds = λ k. if nat_lt k m1 then p.kinds k else q.kinds k;
  fits = λ K e. (
    p.fits K (λ k x y. e k x (omega (arith, y, b)) ∙ ap (λ (c : Bool). if c then p.kinds k else q.kinds k) (lt-ltb k m1 y)),
    q.fits K (λ k x y. e k (omega (arith, a, x)) y ∙ ap (λ (c : Bool). if c then p.kinds k else q.kinds k) (le-ltb k m1 x)),
  );
}

pub kinded_map : {m next : ℕ} {P Q : (ℕ → IntType) → Type 0} → ((K : ℕ → IntType) → P K → Q K) → Kinded m next P → Kinded m next Q
kinded_map f h = record { kinds = h.kinds; fits = λ K e. f K (h.fits K e) }

up : (m : ℕ) → m ≤ suc m
up m = omega arith

under : {m next : ℕ} → suc m ≤ next → next ≤ local_limit → m < local_limit
under a b = omega (arith, a, b)

value_of_some : (e : ScopedExpression) (j : IntType) → kind_at e ≡ Some j → HasValue e
value_of_some (constant line v form kind) j h = h ∙ sym (ap (λ (z : Option IntType). Some (kind_or z)) h)
value_of_some (null line kind) j h = h ∙ sym (ap (λ (z : Option IntType). Some (kind_or z)) h)
value_of_some (text line kind) j h = h ∙ sym (ap (λ (z : Option IntType). Some (kind_or z)) h)
value_of_some (object of kind) j h = h ∙ sym (ap (λ (z : Option IntType). Some (kind_or z)) h)
value_of_some (address line of kind) j h = h ∙ sym (ap (λ (z : Option IntType). Some (kind_or z)) h)
value_of_some (paren line e kind) j h = h ∙ sym (ap (λ (z : Option IntType). Some (kind_or z)) h)
value_of_some (unary line op e kind) j h = h ∙ sym (ap (λ (z : Option IntType). Some (kind_or z)) h)
value_of_some (cast line to e kind) j h = h ∙ sym (ap (λ (z : Option IntType). Some (kind_or z)) h)
value_of_some (binary line op a b kind) j h = h ∙ sym (ap (λ (z : Option IntType). Some (kind_or z)) h)
value_of_some (choose line a b c kind) j h = h ∙ sym (ap (λ (z : Option IntType). Some (kind_or z)) h)
value_of_some (assign line op to e kind) j h = h ∙ sym (ap (λ (z : Option IntType). Some (kind_or z)) h)
value_of_some (step line of going before kind) j h = h ∙ sym (ap (λ (z : Option IntType). Some (kind_or z)) h)
value_of_some (call line callee args kind) j h = h ∙ sym (ap (λ (z : Option IntType). Some (kind_or z)) h)

module _ (p : ScopedProgram) (W : IsWellScoped p) (main : Bool) (K : ℕ → IntType) where
  local_fits : (y : ℕ) (j : IntType) → K y ≡ j → y < local_limit → IsInteger (target p W main K) (Local y 1 j)
  local_fits y j h b = (record { length_ = record { least = omega arith; most = omega arith }; within = omega (arith, b) }, record { each = λ i c. ap K (omega (arith, c)) ∙ h })

  -- a temporary is scoped
  pub temp_fits : (y : ℕ) (j : IntType) → K y ≡ j → y < local_limit → IsScoped (target p W main K) (temp y j)
  temp_fits y j h b = (local_fits y j h b, refl, (refl, refl))

  stored_by : (of : Option IntType) (e : ScopedExpression) (x : ℕ) (k : IntType) → kind_at e ≡ of → K x ≡ k → x < local_limit → IsStored (target p W main K) e (target_of of x k)
  stored_by None e x k h a b = tt
  stored_by (Some j) e x k h a b = (local_fits x k a b, refl, value_of_some e j h)

  -- a stored value
  pub stored_fits : (frames : List ℕ) (e : ScopedExpression) (x : ℕ) (k : IntType) → K x ≡ k → x < local_limit → IsScoped (target p W main K) e → IsTree (target p W main K) frames (store e x k)
  stored_fits frames e x k a b g = (g, stored_by (kind_at e) e x k refl a b)

  pub set_fits : (frames : List ℕ) (e : ScopedExpression) (x : ℕ) (k : IntType) → K x ≡ k → x < local_limit → HasValue e → IsScoped (target p W main K) e → IsTree (target p W main K) frames (evals e (Some (local x k)))
  set_fits frames e x k a b h g = (g, (local_fits x k a b, refl, h))

  constant_fits : (v : ℕ) → v < value_bound → IsScoped (target p W main K) (int_constant v)
  constant_fits v h = (h, refl)

  truth_fits : (y : ℕ) (j : IntType) → K y ≡ j → y < local_limit → IsScoped (target p W main K) (truth_of y j)
  truth_fits y j h b = ((temp_fits y j h b, refl, refl), refl, refl)

  operands_fit : (frames : List ℕ) (line : ℕ) (op : Binary) (ka kb : IntType) (kind : Option IntType) (x : ℕ) (k : IntType) (m : ℕ) (first : Made) (second : ℕ → Made) → kind ≡ Some (value_kind (way_of op) ka kb) →
      K m ≡ ka → m < local_limit → K first.next ≡ kb → first.next < local_limit → K x ≡ k → x < local_limit →
      IsTree (target p W main K) frames first.tree → IsTree (target p W main K) frames (second first.next).tree → IsTree (target p W main K) frames (operands line op ka kb kind x k m first second).tree
  operands_fit frames line ops.Both ka kb kind x k m first second e a al b bl c cl f g =
      (f, (temp_fits m ka a al, refl, (g, stored_fits frames (truth_of first.next kb) x k c cl (truth_fits first.next kb b bl)), stored_fits frames (int_constant 0) x k c cl (constant_fits 0 (omega arith))))
  operands_fit frames line ops.Either ka kb kind x k m first second e a al b bl c cl f g =
      (f, (temp_fits m ka a al, refl, stored_fits frames (int_constant 1) x k c cl (constant_fits 1 (omega arith)), (g, stored_fits frames (truth_of first.next kb) x k c cl (truth_fits first.next kb b bl))))
  operands_fit frames line op ka kb kind x k m first second e a al b bl c cl f g =
      (f, (g, stored_fits frames (binary line op (temp m ka) (temp first.next kb) kind) x k c cl (temp_fits m ka a al, refl, temp_fits first.next kb b bl, refl, e)))

  -- an index in a temporary
  abbrev pub IsKindedAt : ScopedIndex → ℕ → Type 0
  IsKindedAt whole m = ⊤
  IsKindedAt (element e) m = K m ≡ kind_of e

  at_temp_fits : (w : Setting) (o : ℕ) (meant : Object) (checked : Bool) (index : ScopedIndex) (m : ℕ) → IsIndex w meant checked index → IsKindedAt index m → m < local_limit → IsIndex (target p W main K) (moved o meant) false (at_temp index m)
  at_temp_fits w o meant checked whole m g a b = (len_of-moved o meant ∙ g.0, refl)
  at_temp_fits w o meant checked (element e) m g a b = (temp_fits m (kind_of e) a b, refl, refl)

  tested_fits : (w : Setting) (o : ℕ) (meant : Object) (checked : Bool) (index : ScopedIndex) (m : ℕ) → IsIndex w meant checked index → IsKindedAt index m → m < local_limit → IsIndex (target p W main K) (moved o meant) (tested index) (at_temp index m)
  tested_fits w o meant checked whole m g a b = (len_of-moved o meant ∙ g.0, refl)
  tested_fits w o meant checked (element e) m g a b = (temp_fits m (kind_of e) a b, refl, refl)

  pub inside_fits : (frames : List ℕ) (line : ℕ) (meant : Object) (index : ScopedIndex) (m : ℕ) → IsLength (len_of meant) → IsKindedAt index m → m < local_limit → IsTree (target p W main K) frames (inside_of line meant index m)
  inside_fits frames line meant whole m g a b = tt
  inside_fits frames line meant (element e) m g a b = (temp_fits m (kind_of e) a b, refl, g)

integer_length : (w : Setting) (x : Object) → IsInteger w x → IsLength (len_of x)
integer_length w (Local first len kind) g = g.0.length_
integer_length w (Cell first len kind) g = g.0.length_
integer_length w (Mutex first len) g = absurd g
integer_length w (Cond first len) g = absurd g
integer_length w (Handle first len) g = absurd g
integer_length w (Routine function) g = absurd g
integer_length w (Known name) g = absurd g

operands_next : (line : ℕ) (op : Binary) (ka kb : IntType) (kind : Option IntType) (x : ℕ) (k : IntType) (m : ℕ) (first : Made) (second : ℕ → Made) → (operands line op ka kb kind x k m first second).next ≡ (second first.next).next
operands_next line ops.Both ka kb kind x k m first second = refl
operands_next line ops.Either ka kb kind x k m first second = refl
operands_next line op ka kb kind x k m first second = refl

-- ---- objects that are handed on

thread_length : (w : Setting) (x : Object) → IsThread w x → IsLength (len_of x)
thread_length w (Handle first len) g = g.0.length_
thread_length w (Local first len kind) g = absurd g
thread_length w (Cell first len kind) g = absurd g
thread_length w (Mutex first len) g = absurd g
thread_length w (Cond first len) g = absurd g
thread_length w (Routine function) g = absurd g
thread_length w (Known name) g = absurd g

cond_length : (w : Setting) (x : Object) → IsCond w x → IsLength (len_of x)
cond_length w (Cond first len) g = g.length_
cond_length w (Local first len kind) g = absurd g
cond_length w (Cell first len kind) g = absurd g
cond_length w (Mutex first len) g = absurd g
cond_length w (Handle first len) g = absurd g
cond_length w (Routine function) g = absurd g
cond_length w (Known name) g = absurd g

module _ (p : ScopedProgram) (W : IsWellScoped p) (main : Bool) (f o : ℕ) (alone : W.plan.alone f ≡ true → main ≡ true) (K : ℕ → IntType) (F : IsFramed p W f o K) where
  address_arg : (form : Form) (line at : ℕ) (meant : Object) (index index' : ScopedIndex) (checked b : Bool) (j : Option IntType) →
      IsArgument (setting_of p W.plan f) form (address line (lvalue at meant index checked) j) ⊥ (IsIndex (setting_of p W.plan f) meant checked index) →
      (IsIndex (setting_of p W.plan f) meant checked index → IsIndex (target p W main K) (moved o meant) b index') →
      IsArgument (target p W main K) form (address line (lvalue at (moved o meant) index' b) j) ⊥ (IsIndex (target p W main K) (moved o meant) b index')
  address_arg some_value line at meant index index' checked b j g i = absurd g.0
  address_arg no_attribute line at meant index index' checked b j g i = absurd g.0
  address_arg format line at meant index index' checked b j g i = absurd g
  address_arg start line at meant index index' checked b j g i = absurd g
  address_arg new_thread line at meant index index' checked b j g i = (refl, thread_moved p W main f o alone K F meant g.1, i g.2)
  address_arg made_thread line at meant index index' checked b j g i = absurd (false≢true g.0)
  address_arg mutex line at meant index index' checked b j g i = (refl, mutex_moved p W main f o alone K F meant g.1, i g.2)
  address_arg cond line at meant index index' checked b j g i = (refl, cond_moved p W main f o alone K F meant g.1, i g.2)

  object_arg : (forms : List Form) (form : Form) (at : ℕ) (meant : Object) (index index' : ScopedIndex) (checked b : Bool) (j : Option IntType) → takes_object form forms ≡ true →
      IsArgument (setting_of p W.plan f) form (object (lvalue at meant index checked) j) (IsScoped (setting_of p W.plan f) (object (lvalue at meant index checked) j)) (IsIndex (setting_of p W.plan f) meant checked index) →
      (IsIndex (setting_of p W.plan f) meant checked index → IsIndex (target p W main K) (moved o meant) b index') →
      IsArgument (target p W main K) form (object (lvalue at (moved o meant) index' b) j) (IsScoped (target p W main K) (object (lvalue at (moved o meant) index' b) j)) (IsIndex (target p W main K) (moved o meant) b index')
  object_arg forms some_value at meant index index' checked b j t g i = absurd (false≢true t)
  object_arg forms no_attribute at meant index index' checked b j t g i = absurd (false≢true t)
  object_arg forms format at meant index index' checked b j t g i = absurd (false≢true t)
  object_arg forms start at meant index index' checked b j t g i = absurd (false≢true t)
  object_arg forms new_thread at meant index index' checked b j t g i = absurd (false≢true g.0)
  object_arg forms made_thread at meant index index' checked b j t g i = (refl, thread_moved p W main f o alone K F meant g.1, i g.2)
  object_arg forms mutex at meant index index' checked b j t g i = absurd (false≢true g.0)
  object_arg forms cond at meant index index' checked b j t g i = absurd (false≢true g.0)

  -- an object that is handed on, its index in a temporary
  place_arg : (form : Form) (forms : List Form) (was : Bool) (thing : ScopedExpression) (m : ℕ) → takes_object form forms ≡ true →
      IsArgument (setting_of p W.plan f) form thing (IsScoped (setting_of p W.plan f) thing) (IsIndexed (setting_of p W.plan f) thing) → IsKindedAt p W main K (index_in thing) m → m < local_limit →
      IsArgument (target p W main K) form (at_place o was thing m) (IsScoped (target p W main K) (at_place o was thing m)) (IsIndexed (target p W main K) (at_place o was thing m))
  place_arg form forms true (address line (lvalue at meant index checked) j) m t g a b = address_arg form line at meant index (at_temp index m) checked (tested index) j g (λ i. tested_fits p W main K (setting_of p W.plan f) o meant checked index m i a b)
  place_arg form forms false (address line (lvalue at meant index checked) j) m t g a b = address_arg form line at meant index (at_temp index m) checked false j g (λ i. at_temp_fits p W main K (setting_of p W.plan f) o meant checked index m i a b)
  place_arg form forms true (object (lvalue at meant index checked) j) m t g a b = object_arg forms form at meant index (at_temp index m) checked (tested index) j t g (λ i. tested_fits p W main K (setting_of p W.plan f) o meant checked index m i a b)
  place_arg form forms false (object (lvalue at meant index checked) j) m t g a b = object_arg forms form at meant index (at_temp index m) checked false j t g (λ i. at_temp_fits p W main K (setting_of p W.plan f) o meant checked index m i a b)
  place_arg form forms was thing m t g a b = absurd (false≢true (thing_handed (setting_of p W.plan f) form forms thing t g))

  -- the check of its index
  place_inside : (frames : List ℕ) (thing : ScopedExpression) (m : ℕ) → is_object_argument thing ≡ true → IsLength (len_of (meant_by thing)) → IsKindedAt p W main K (index_in thing) m → m < local_limit → IsTree (target p W main K) frames (inside_place thing m)
  place_inside frames (address line (lvalue at meant index checked) j) m h g a b = inside_fits p W main K frames at meant index m g a b
  place_inside frames (object (lvalue at meant index checked) j) m h g a b = inside_fits p W main K frames at meant index m g a b
  place_inside frames thing m h g a b = absurd (false≢true h)

-- ---- expressions

-- What is known of the bodies of functions, and of known names whose arguments call.
module _ (p : ScopedProgram) (W : IsWellScoped p) (main : Bool) (frames : List ℕ) (f o : ℕ) (alone : W.plan.alone f ≡ true → main ≡ true) where
  -- a piece that keeps the rules, its value in a local of this kind
  abbrev pub Fits : Made → ℕ → IntType → (ℕ → IntType) → Type 0
  Fits piece x k K = IsFramed p W f o K → piece.next ≤ local_limit → K x ≡ k → x < local_limit → IsTree (target p W main K) frames piece.tree

  unless_kinded : (b : Bool) (plain spread : Made) {m x : ℕ} {k : IntType} → (b ≡ false → Kinded m plain.next (Fits plain x k)) → (b ≡ true → Kinded m spread.next (Fits spread x k)) →
      Kinded m (unless_call b plain spread).next (Fits (unless_call b plain spread) x k)
  unless_kinded true plain spread g h = h refl
  unless_kinded false plain spread g h = g refl

  plainly_kinded : (e : ScopedExpression) (x : ℕ) (k : IntType) (m : ℕ) → has_call e ≡ false → IsScoped (setting_of p W.plan f) e → Kinded m m (Fits (record { tree = store (shift o e) x k; next = m }) x k)
  plainly_kinded e x k m c g = kinded_none (λ K F lim a b. stored_fits p W main K frames (shift o e) x k a b (scoped_moved p W main f o alone K F e c g))

  -- the frame of a callee and its result
  record Frame (g m : ℕ) (K : ℕ → IntType) : Type 0 where
    here : (i : ℕ) → i < (function_at p g).locals → K (m + i) ≡ W.plan.local_kinds g i
    result : K (m + (function_at p g).locals) ≡ kind_or (function_at p g).gives

  frame_kinded : (g m : ℕ) → Kinded m (suc (m + (function_at p g).locals)) (Frame g m)
  frame_kinded g m = record {
    kinds = kinds_;
    fits = λ K e. record {
      here = λ i h. e (m + i) (omega arith) (omega (arith, h)) ∙ ap (λ (c : Bool). if c then W.plan.local_kinds g ((m + i) - m) else kind_or (function_at p g).gives) (lt-ltb (m + i) (m + (function_at p g).locals) (omega (arith, h))) ∙
          ap (W.plan.local_kinds g) (omega arith);
      result = e (m + (function_at p g).locals) (omega arith) (omega arith) ∙
          ap (λ (c : Bool). if c then W.plan.local_kinds g ((m + (function_at p g).locals) - m) else kind_or (function_at p g).gives) (le-ltb (m + (function_at p g).locals) (m + (function_at p g).locals) (le_refl (m + (function_at p g).locals)));
    };
  }
    where
      kinds_ : ℕ → IntType
      kinds_ k = if nat_lt k (m + (function_at p g).locals) then W.plan.local_kinds g (k - m) else kind_or (function_at p g).gives

  head_kind_is : (ks : List IntType) → slice_index_or ks 0 Int ≡ head_kind ks
  head_kind_is [] = refl
  head_kind_is (k ∷ ks) = refl

  tail_kind_is : (ks : List IntType) (i : ℕ) → slice_index_or ks (suc i) Int ≡ slice_index_or (tail_kinds ks) i Int
  tail_kind_is [] i = refl
  tail_kind_is (k ∷ ks) i = refl

  module _ (inline : Inliner) (inline_grows : (g i m : ℕ) → m ≤ (inline g i m).next)
      (inlined : (g i m : ℕ) → MayCall p W.plan f g → Kinded m (inline g i m).next (λ K. IsFramed p W g i K → K (i + (function_at p g).locals) ≡ kind_or (function_at p g).gives → i + (function_at p g).locals < m → (inline g i m).next ≤ local_limit → IsTree (target p W main K) frames (inline g i m).tree)) where
    grow : (e : ScopedExpression) (x : ℕ) (k : IntType) (m : ℕ) → m ≤ (into (callees p inline) o e x k m).next
    grow e x k m = into_grows (callees p inline) o inline_grows e x k m

    grow_index : (index : ScopedIndex) (x m : ℕ) → m ≤ (index_into (callees p inline) o index x m).next
    grow_index index x m = index_grows (callees p inline) o inline_grows index x m

    binary_fits : (line : ℕ) (op : Binary) (a b : ScopedExpression) (kind : Option IntType) (x : ℕ) (k : IntType) (m : ℕ) → kind ≡ Some (value_kind (way_of op) (kind_of a) (kind_of b)) →
        Kinded m (into (callees p inline) o b (into (callees p inline) o a m (kind_of a) (suc m)).next (kind_of b) (suc (into (callees p inline) o a m (kind_of a) (suc m)).next)).next
        (λ K. (K m ≡ kind_of a) × (Fits (into (callees p inline) o a m (kind_of a) (suc m)) m (kind_of a) K × ((K (into (callees p inline) o a m (kind_of a) (suc m)).next ≡ kind_of b) ×
        Fits (into (callees p inline) o b (into (callees p inline) o a m (kind_of a) (suc m)).next (kind_of b) (suc (into (callees p inline) o a m (kind_of a) (suc m)).next)) (into (callees p inline) o a m (kind_of a) (suc m)).next (kind_of b) K))) →
        Kinded m (operands line op (kind_of a) (kind_of b) kind x k m (into (callees p inline) o a m (kind_of a) (suc m)) (λ n. into (callees p inline) o b n (kind_of b) (suc n))).next
        (Fits (operands line op (kind_of a) (kind_of b) kind x k m (into (callees p inline) o a m (kind_of a) (suc m)) (λ n. into (callees p inline) o b n (kind_of b) (suc n))) x k)
    binary_fits line op a b kind x k m e h =
        let first = into (callees p inline) o a m (kind_of a) (suc m) in let second : ℕ → Made = λ n. into (callees p inline) o b n (kind_of b) (suc n) in
        let ga = grow a m (kind_of a) (suc m) in let gb = grow b first.next (kind_of b) (suc first.next) in
        let next_is = operands_next line op (kind_of a) (kind_of b) kind x k m first second in
        subst (λ (n : ℕ). Kinded m n (Fits (operands line op (kind_of a) (kind_of b) kind x k m first second) x k)) (sym next_is)
        (kinded_map (λ K h F lim0 xk xl. let lim = subst (λ (n : ℕ). n ≤ local_limit) next_is lim0 in let lim1 = le_trans (le_trans (up first.next) gb) lim in
        operands_fit p W main K frames line op (kind_of a) (kind_of b) kind x k m first second e h.0 (under ga lim1) h.1.1.0 (under gb lim) xk xl (h.1.0 F lim1 h.0 (under ga lim1)) (h.1.1.1 F lim h.1.1.0 (under gb lim))) h)

    dropped_kinded : (b : Bool) (e : ScopedExpression) (m : ℕ) → has_call e ≡ b → IsScoped (setting_of p W.plan f) e →
        Kinded m (into (callees p inline) o e m (kind_of e) (suc m)).next (λ K. IsFramed p W f o K → (into (callees p inline) o e m (kind_of e) (suc m)).next ≤ local_limit → IsTree (target p W main K) frames (into (callees p inline) o e m (kind_of e) (suc m)).tree) →
        Kinded m (unless_call b (record { tree = evals (shift o e) None; next = m }) (into (callees p inline) o e m (kind_of e) (suc m))).next
        (λ K. IsFramed p W f o K → (unless_call b (record { tree = evals (shift o e) None; next = m }) (into (callees p inline) o e m (kind_of e) (suc m))).next ≤ local_limit → IsTree (target p W main K) frames (unless_call b (record { tree = evals (shift o e) None; next = m }) (into (callees p inline) o e m (kind_of e) (suc m))).tree)
    dropped_kinded true e m c g h = h
    dropped_kinded false e m c g h = kinded_none (λ K F lim. (scoped_moved p W main f o alone K F e c g, tt))

    mutual
      -- an expression with its calls inlined
      pub into_kinded : (e : ScopedExpression) (x : ℕ) (k : IntType) (m : ℕ) → IsScoped (setting_of p W.plan f) e → Kinded m (into (callees p inline) o e x k m).next (Fits (into (callees p inline) o e x k m) x k)
      into_kinded (constant line v form kind) x k m g = plainly_kinded (constant line v form kind) x k m refl g
      into_kinded (null line kind) x k m g = plainly_kinded (null line kind) x k m refl g
      into_kinded (text line kind) x k m g = absurd g
      into_kinded (address line of kind) x k m g = absurd g
      into_kinded (object (lvalue line meant index checked) kind) x k m g = unless_kinded (index_has_call index) _ _ (λ c. plainly_kinded (object (lvalue line meant index checked) kind) x k m c g)
          (λ c. kinded_map (λ K h F lim a b. let low = under (grow_index index m (suc m)) lim in let i = h F lim in (
            i.0,
            stored_fits p W main K frames (object (lvalue line (moved o meant) (at_temp index m) false) kind) x k a b
                (integer_moved p W main f o alone K F meant g.0, g.1 ∙ sym (ap (λ (j : IntType). Some j) (kind_of_object-moved o meant)), at_temp_fits p W main K (setting_of p W.plan f) o meant checked index m g.2 i.1 low),
          ))
          (place_kinded meant checked index m g.2))
      into_kinded (paren line e kind) x k m g = into_kinded e x k m g.0
      into_kinded (unary line op e kind) x k m g = unless_kinded (has_call e) _ _ (λ c. plainly_kinded (unary line op e kind) x k m c g)
          (λ c. kinded_map (λ K h F lim a b. let low = under (grow e m (kind_of e) (suc m)) lim in
          (h.1 F lim h.0 low, stored_fits p W main K frames (unary line op (temp m (kind_of e)) kind) x k a b (temp_fits p W main K m (kind_of e) h.0 low, refl, g.2)))
          (kinded_two (up m) (grow e m (kind_of e) (suc m)) (kinded_temp m (kind_of e)) (into_kinded e m (kind_of e) (suc m) g.0)))
      into_kinded (cast line to e kind) x k m g = unless_kinded (has_call e) _ _ (λ c. plainly_kinded (cast line to e kind) x k m c g) (λ c. into_kinded e x k m g.0)
      into_kinded (binary line op a b kind) x k m g =
          let m1 = (into (callees p inline) o a m (kind_of a) (suc m)).next in
          let ga = grow a m (kind_of a) (suc m) in let gb = grow b m1 (kind_of b) (suc m1) in
          unless_kinded (has_call a || has_call b) _ _ (λ c. plainly_kinded (binary line op a b kind) x k m c g)
          (λ c. binary_fits line op a b kind x k m g.4
          (kinded_two (up m) (le_trans ga (le_trans (up m1) gb)) (kinded_temp m (kind_of a)) (kinded_two ga (le_trans (up m1) gb) (into_kinded a m (kind_of a) (suc m) g.0)
          (kinded_two (up m1) gb (kinded_temp m1 (kind_of b)) (into_kinded b m1 (kind_of b) (suc m1) g.2)))))
      into_kinded (choose line a b d kind) x k m g =
          let j = kind_or kind in
          let m1 = (into (callees p inline) o a m (kind_of a) (suc m)).next in let m2 = (into (callees p inline) o b m1 j (suc m1)).next in
          let ga = grow a m (kind_of a) (suc m) in let gb = grow b m1 j (suc m1) in let gd = grow d m1 j m2 in
          unless_kinded (has_call a || (has_call b || has_call d)) _ _ (λ c. plainly_kinded (choose line a b d kind) x k m c g)
          (λ c. kinded_map (λ K h F lim xk xl. let low1 = under gb (le_trans gd lim) in let low = under ga (le_trans (le_trans (up m1) (le_trans gb gd)) lim) in (
            h.1.0 F (le_trans (le_trans (up m1) (le_trans gb gd)) lim) h.0 low,
            (
              (temp_fits p W main K m (kind_of a) h.0 low, refl, h.1.1.1.0 F (le_trans gd lim) h.1.1.0 low1, h.1.1.1.1 F lim h.1.1.0 low1),
              stored_fits p W main K frames (temp m1 j) x k xk xl (temp_fits p W main K m1 j h.1.1.0 low1),
            ),
          ))
          (kinded_two (up m) (le_trans ga (le_trans (up m1) (le_trans gb gd))) (kinded_temp m (kind_of a)) (kinded_two ga (le_trans (up m1) (le_trans gb gd)) (into_kinded a m (kind_of a) (suc m) g.0)
          (kinded_two (up m1) (le_trans gb gd) (kinded_temp m1 j) (kinded_two gb gd (into_kinded b m1 j (suc m1) g.2) (into_kinded d m1 j m2 g.3))))))
      into_kinded (assign line None (lvalue at meant index checked) e kind) x k m g =
          let m1 = (index_into (callees p inline) o index m (suc m)).next in let gi = grow_index index m (suc m) in let ge = grow e m1 (kind_of e) (suc m1) in
          unless_kinded (index_has_call index || has_call e) _ _ (λ c. plainly_kinded (assign line None (lvalue at meant index checked) e kind) x k m c g)
          (λ c. kinded_map (λ K h F lim xk xl. let lim1 = le_trans (le_trans (up m1) ge) lim in let low = under gi lim1 in let low1 = under ge lim in let i = h.0 F lim1 in (
            i.0,
            (
              h.1.1 F lim h.1.0 low1,
              stored_fits p W main K frames (assign line None (lvalue at (moved o meant) (at_temp index m) false) (temp m1 (kind_of e)) kind) x k xk xl (
                integer_moved p W main f o alone K F meant g.0,
                at_temp_fits p W main K (setting_of p W.plan f) o meant checked index m g.1 i.1 low,
                temp_fits p W main K m1 (kind_of e) h.1.0 low1,
                refl,
                tt,
                g.5 ∙ sym (ap (λ (j : IntType). Some j) (kind_of_object-moved o meant)),
              ),
            ),
          ))
          (kinded_two (le_trans (up m) gi) (le_trans (up m1) ge) (place_kinded meant checked index m g.1) (kinded_two (up m1) ge (kinded_temp m1 (kind_of e)) (into_kinded e m1 (kind_of e) (suc m1) g.2))))
      into_kinded (assign line (Some op) (lvalue at meant index checked) e kind) x k m g =
          let m1 = (index_into (callees p inline) o index m (suc m)).next in let j = kind_of_object meant in let m2 = suc m1 in
          let gi = grow_index index m (suc m) in let ge = grow e m2 (kind_of e) (suc m2) in
          unless_kinded (index_has_call index || has_call e) _ _ (λ c. plainly_kinded (assign line (Some op) (lvalue at meant index checked) e kind) x k m c g)
          (λ c. kinded_map (λ K h F lim xk xl. let lim1 = le_trans (le_trans (up m1) (le_trans (up m2) ge)) lim in let low = under gi lim1 in let low1 = under (le_trans (up m2) ge) lim in let low2 = under ge lim in let i = h.0 F lim1 in
          let at_ = tested_fits p W main K (setting_of p W.plan f) o meant checked index m g.1 i.1 low in let int = integer_moved p W main f o alone K F meant g.0 in
          let same = sym (ap (λ (z : IntType). Some z) (kind_of_object-moved o meant)) in (
            i.0,
            (
              inside_fits p W main K frames at meant index m (integer_length (setting_of p W.plan f) meant g.0) i.1 low,
              (
                stored_fits p W main K frames (object (lvalue line (moved o meant) (at_temp index m) (tested index)) (Some j)) m1 j h.1.0 low1 (int, same, at_),
                (
                  h.1.1.1 F lim h.1.1.0 low2,
                  stored_fits p W main K frames (assign line None (lvalue at (moved o meant) (at_temp index m) (tested index)) (binary line op (temp m1 j) (temp m2 (kind_of e)) (Some (value_kind (way_of op) j (kind_of e)))) kind) x k xk xl
                      (int, at_, (temp_fits p W main K m1 j h.1.0 low1, refl, temp_fits p W main K m2 (kind_of e) h.1.1.0 low2, refl, refl), refl, tt, g.5 ∙ same),
                ),
              ),
            ),
          ))
          (kinded_two (le_trans (up m) gi) (le_trans (up m1) (le_trans (up m2) ge)) (place_kinded meant checked index m g.1) (kinded_two (up m1) (le_trans (up m2) ge) (kinded_temp m1 j) (kinded_two (up m2) ge (kinded_temp m2 (kind_of e)) (into_kinded e m2 (kind_of e) (suc m2) g.2)))))
      into_kinded (step line (lvalue at meant index checked) going before kind) x k m g = unless_kinded (index_has_call index) _ _ (λ c. plainly_kinded (step line (lvalue at meant index checked) going before kind) x k m c g)
          (λ c. kinded_map (λ K h F lim a b. let low = under (grow_index index m (suc m)) lim in let i = h F lim in (
            i.0,
            stored_fits p W main K frames (step line (lvalue at (moved o meant) (at_temp index m) false) going before kind) x k a b
                (integer_moved p W main f o alone K F meant g.0, at_temp_fits p W main K (setting_of p W.plan f) o meant checked index m g.1 i.1 low, g.2 ∙ sym (ap (λ (j : IntType). Some j) (kind_of_object-moved o meant))),
          ))
          (place_kinded meant checked index m g.1))
      into_kinded (call line (Routine q) args kind) x k m g =
          let z = (function_at p q).locals in let ps = (function_at p q).params in let m1 = suc (m + z) in
          let m2 = (arguments_into (callees p inline) o args ps m m1).next in
          let there = g.0.there in let room = (W.each q there).room in
          let few : number_of args ≤ z = le_trans (subst (λ (n : ℕ). number_of args ≤ n) g.1 (le_refl (number_of args))) room in
          let up1 : m ≤ m1 = omega arith in
          let ga = arguments_grows (callees p inline) o inline_grows args ps m m1 in let gi = inline_grows q m m2 in
          kinded_map (λ K h F lim xk xl. let top : m + z < local_limit = omega (arith, ga, gi, lim) in (
            h.1.0 F (le_trans gi lim) (λ i c. h.0.here i (omega (arith, c, few)) ∙ (W.each q there).kinds i (subst (λ (n : ℕ). i < n) g.1 c)) (omega (arith, few, top)),
            (
              h.1.1 (record { here = h.0.here; room = omega (arith, top) }) h.0.result (omega (arith, ga)) lim,
              stored_fits p W main K frames (temp (m + z) (kind_or (function_at p q).gives)) x k xk xl (temp_fits p W main K (m + z) (kind_or (function_at p q).gives) h.0.result top),
            ),
          ))
          (kinded_two up1 (le_trans ga gi) (frame_kinded q m) (kinded_two ga gi (arguments_kinded args ps m m1 g.2) (inlined q m m2 g.0)))
      into_kinded (call line (Known name) args kind) x k m g = unless_kinded (all_have_call args) _ _ (λ c. plainly_kinded (call line (Known name) args kind) x k m c g) (λ c. known_kinded line name args kind x k m c g.0 g.1)
      into_kinded (call line (Local first len j) args kind) x k m g = absurd g
      into_kinded (call line (Cell first len j) args kind) x k m g = absurd g
      into_kinded (call line (Mutex first len) args kind) x k m g = absurd g
      into_kinded (call line (Cond first len) args kind) x k m g = absurd g
      into_kinded (call line (Handle first len) args kind) x k m g = absurd g

      -- an index in the first new number
      pub place_kinded : (meant : Object) (checked : Bool) (index : ScopedIndex) (m : ℕ) → IsIndex (setting_of p W.plan f) meant checked index →
          Kinded m (index_into (callees p inline) o index m (suc m)).next (λ K. IsFramed p W f o K → (index_into (callees p inline) o index m (suc m)).next ≤ local_limit → IsTree (target p W main K) frames (index_into (callees p inline) o index m (suc m)).tree × IsKindedAt p W main K index m)
      place_kinded meant checked whole m g = record { kinds = λ k. Int; fits = λ K e F lim. (tt, tt) }
      place_kinded meant checked (element e) m g = kinded_map (λ K h F lim. (h.1 F lim h.0 (under (grow e m (kind_of e) (suc m)) lim), h.0))
          (kinded_two (up m) (grow e m (kind_of e) (suc m)) (kinded_temp m (kind_of e)) (into_kinded e m (kind_of e) (suc m) g.0))

      arguments_kinded : (es : ScopedExpressions) (ks : List IntType) (x m : ℕ) → AreValues (setting_of p W.plan f) es →
          Kinded m (arguments_into (callees p inline) o es ks x m).next (λ K. IsFramed p W f o K → (arguments_into (callees p inline) o es ks x m).next ≤ local_limit → ((i : ℕ) → i < number_of es → K (x + i) ≡ slice_index_or ks i Int) → x + number_of es ≤ local_limit →
          IsTree (target p W main K) frames (arguments_into (callees p inline) o es ks x m).tree)
      arguments_kinded none ks x m g = kinded_none (λ K F lim h b. tt)
      arguments_kinded (and e es) ks x m g =
          let m1 = (into (callees p inline) o e x (head_kind ks) m).next in
          let ge = grow e x (head_kind ks) m in let gs = arguments_grows (callees p inline) o inline_grows es (tail_kinds ks) (suc x) m1 in
          kinded_map (λ K h F lim each b. (
            h.0 F (le_trans gs lim) (ap K (sym (add-zero x)) ∙ each 0 (omega arith) ∙ head_kind_is ks) (omega (arith, b)),
            h.1 F lim (λ i c. ap K (omega arith) ∙ each (suc i) (omega (arith, c)) ∙ tail_kind_is ks i) (omega (arith, b)),
          ))
          (kinded_two ge gs (into_kinded e x (head_kind ks) m g.0) (arguments_kinded es (tail_kinds ks) (suc x) m1 g.2))

      -- the index of an object that is handed on
      thing_kinded : (thing : ScopedExpression) (m : ℕ) → IsIndexed (setting_of p W.plan f) thing →
          Kinded m (handed_into (callees p inline) o thing m).next (λ K. IsFramed p W f o K → (handed_into (callees p inline) o thing m).next ≤ local_limit → IsTree (target p W main K) frames (handed_into (callees p inline) o thing m).tree × IsKindedAt p W main K (index_in thing) m × (suc m ≤ (handed_into (callees p inline) o thing m).next))
      thing_kinded (address line (lvalue at meant index checked) j) m g = kinded_map (λ K h F lim. ((h F lim).0, (h F lim).1, grow_index index m (suc m))) (place_kinded meant checked index m g)
      thing_kinded (object (lvalue at meant index checked) j) m g = kinded_map (λ K h F lim. ((h F lim).0, (h F lim).1, grow_index index m (suc m))) (place_kinded meant checked index m g)
      thing_kinded (constant line v form j) m g = absurd g
      thing_kinded (null line j) m g = absurd g
      thing_kinded (text line j) m g = absurd g
      thing_kinded (paren line e j) m g = absurd g
      thing_kinded (unary line op e j) m g = absurd g
      thing_kinded (cast line to e j) m g = absurd g
      thing_kinded (binary line op a b j) m g = absurd g
      thing_kinded (choose line a b d j) m g = absurd g
      thing_kinded (assign line op to e j) m g = absurd g
      thing_kinded (step line of going before j) m g = absurd g
      thing_kinded (call line callee args j) m g = absurd g

      printed_kinded : (es : ScopedExpressions) (m : ℕ) → AreValues (setting_of p W.plan f) es → Kinded m (printed_into (callees p inline) o es m).next (λ K. IsFramed p W f o K → (printed_into (callees p inline) o es m).next ≤ local_limit → IsTree (target p W main K) frames (printed_into (callees p inline) o es m).tree)
      printed_kinded none m g = kinded_none (λ K F lim. tt)
      printed_kinded (and e es) m g =
          let gs = printed_grows (callees p inline) o inline_grows es (discarded (callees p inline) o e m).next in
          kinded_map (λ K h F lim. (h.0 F (le_trans gs lim), h.1 F lim))
          (kinded_two (discarded_grows (callees p inline) o inline_grows e m) gs (dropped_kinded (has_call e) e m refl g.0
          (kinded_map (λ K h F lim. h.1 F lim h.0 (under (grow e m (kind_of e) (suc m)) lim)) (kinded_two (up m) (grow e m (kind_of e) (suc m)) (kinded_temp m (kind_of e)) (into_kinded e m (kind_of e) (suc m) g.0))))
          (printed_kinded es (discarded (callees p inline) o e m).next g.2))

      known_kinded : (line : ℕ) (name : KnownName) (args : ScopedExpressions) (kind : Option IntType) (x : ℕ) (k : IntType) (m : ℕ) → all_have_call args ≡ true → AreArguments (setting_of p W.plan f) (takes_more name) (forms_of name) args → kind ≡ result_of name →
          Kinded m (known_into (callees p inline) o (shape_of name) line name args kind x k m).next (Fits (known_into (callees p inline) o (shape_of name) line name args kind x k m) x k)
      known_kinded line known.Assert none kind x k m c g r = absurd g
      known_kinded line known.Assert (and e none) kind x k m c g r =
          kinded_map (λ K h F lim xk xl. let low = under (grow e m (kind_of e) (suc m)) lim in (h.1 F lim h.0 low, stored_fits p W main K frames (call line (Known known.Assert) (and (temp m (kind_of e)) none) kind) x k xk xl (((temp_fits p W main K m (kind_of e) h.0 low, refl), tt), r)))
          (kinded_two (up m) (grow e m (kind_of e) (suc m)) (kinded_temp m (kind_of e)) (into_kinded e m (kind_of e) (suc m) g.0.0))
      known_kinded line known.Assert (and e (and e2 rest)) kind x k m c g r = absurd (false≢true g.1.0)
      known_kinded line known.Assume none kind x k m c g r = absurd g
      known_kinded line known.Assume (and e none) kind x k m c g r =
          kinded_map (λ K h F lim xk xl. let low = under (grow e m (kind_of e) (suc m)) lim in (h.1 F lim h.0 low, stored_fits p W main K frames (call line (Known known.Assume) (and (temp m (kind_of e)) none) kind) x k xk xl (((temp_fits p W main K m (kind_of e) h.0 low, refl), tt), r)))
          (kinded_two (up m) (grow e m (kind_of e) (suc m)) (kinded_temp m (kind_of e)) (into_kinded e m (kind_of e) (suc m) g.0.0))
      known_kinded line known.Assume (and e (and e2 rest)) kind x k m c g r = absurd (false≢true g.1.0)
      known_kinded line known.Exit none kind x k m c g r = absurd g
      known_kinded line known.Exit (and e none) kind x k m c g r =
          kinded_map (λ K h F lim xk xl. let low = under (grow e m (kind_of e) (suc m)) lim in (h.1 F lim h.0 low, stored_fits p W main K frames (call line (Known known.Exit) (and (null line (Some Unsigned)) none) kind) x k xk xl (((refl, refl), tt), r)))
          (kinded_two (up m) (grow e m (kind_of e) (suc m)) (kinded_temp m (kind_of e)) (into_kinded e m (kind_of e) (suc m) g.0.0))
      known_kinded line known.Exit (and e (and e2 rest)) kind x k m c g r = absurd (false≢true g.1.0)
      known_kinded line known.Printf none kind x k m c g r = absurd g
      known_kinded line known.Printf (and e values) kind x k m c g r =
          kinded_map (λ K h F lim xk xl. (h F lim, stored_fits p W main K frames (int_constant 0) x k xk xl (constant_fits p W main K 0 (omega arith)))) (printed_kinded values m (more_values (setting_of p W.plan f) values g.1))
      known_kinded line known.Join none kind x k m c g r = absurd g
      known_kinded line known.Join (and thing rest) kind x k m c g r =
          kinded_map (λ K h F lim xk xl. let i = h F lim in let low = under i.2 lim in (
            i.0,
            stored_fits p W main K frames (call line (Known known.Join) (and (at_place o false thing m) (shift_all o rest)) kind) x k xk xl
                ((place_arg p W main f o alone K F made_thread (no_attribute ∷ []) false thing m refl g.0 i.1 low, arguments_moved p W main f o alone K F false (no_attribute ∷ []) rest (rest_calls_none (setting_of p W.plan f) made_thread (no_attribute ∷ []) rest refl g.1) g.1), r),
          )) (thing_kinded thing m g.0.2)
      known_kinded line known.MutexInit none kind x k m c g r = absurd g
      known_kinded line known.MutexInit (and thing rest) kind x k m c g r =
          kinded_map (λ K h F lim xk xl. let i = h F lim in let low = under i.2 lim in (
            i.0,
            stored_fits p W main K frames (call line (Known known.MutexInit) (and (at_place o false thing m) (shift_all o rest)) kind) x k xk xl
                ((place_arg p W main f o alone K F mutex (no_attribute ∷ []) false thing m refl g.0 i.1 low, arguments_moved p W main f o alone K F false (no_attribute ∷ []) rest (rest_calls_none (setting_of p W.plan f) mutex (no_attribute ∷ []) rest refl g.1) g.1), r),
          )) (thing_kinded thing m g.0.2)
      known_kinded line known.MutexDestroy none kind x k m c g r = absurd g
      known_kinded line known.MutexDestroy (and thing rest) kind x k m c g r =
          kinded_map (λ K h F lim xk xl. let i = h F lim in let low = under i.2 lim in (
            i.0,
            stored_fits p W main K frames (call line (Known known.MutexDestroy) (and (at_place o false thing m) (shift_all o rest)) kind) x k xk xl
                ((place_arg p W main f o alone K F mutex [] false thing m refl g.0 i.1 low, arguments_moved p W main f o alone K F false [] rest (rest_calls_none (setting_of p W.plan f) mutex [] rest refl g.1) g.1), r),
          )) (thing_kinded thing m g.0.2)
      known_kinded line known.MutexLock none kind x k m c g r = absurd g
      known_kinded line known.MutexLock (and thing rest) kind x k m c g r =
          kinded_map (λ K h F lim xk xl. let i = h F lim in let low = under i.2 lim in (
            i.0,
            stored_fits p W main K frames (call line (Known known.MutexLock) (and (at_place o false thing m) (shift_all o rest)) kind) x k xk xl
                ((place_arg p W main f o alone K F mutex [] false thing m refl g.0 i.1 low, arguments_moved p W main f o alone K F false [] rest (rest_calls_none (setting_of p W.plan f) mutex [] rest refl g.1) g.1), r),
          )) (thing_kinded thing m g.0.2)
      known_kinded line known.MutexUnlock none kind x k m c g r = absurd g
      known_kinded line known.MutexUnlock (and thing rest) kind x k m c g r =
          kinded_map (λ K h F lim xk xl. let i = h F lim in let low = under i.2 lim in (
            i.0,
            stored_fits p W main K frames (call line (Known known.MutexUnlock) (and (at_place o false thing m) (shift_all o rest)) kind) x k xk xl
                ((place_arg p W main f o alone K F mutex [] false thing m refl g.0 i.1 low, arguments_moved p W main f o alone K F false [] rest (rest_calls_none (setting_of p W.plan f) mutex [] rest refl g.1) g.1), r),
          )) (thing_kinded thing m g.0.2)
      known_kinded line known.CondInit none kind x k m c g r = absurd g
      known_kinded line known.CondInit (and thing rest) kind x k m c g r =
          kinded_map (λ K h F lim xk xl. let i = h F lim in let low = under i.2 lim in (
            i.0,
            stored_fits p W main K frames (call line (Known known.CondInit) (and (at_place o false thing m) (shift_all o rest)) kind) x k xk xl
                ((place_arg p W main f o alone K F cond (no_attribute ∷ []) false thing m refl g.0 i.1 low, arguments_moved p W main f o alone K F false (no_attribute ∷ []) rest (rest_calls_none (setting_of p W.plan f) cond (no_attribute ∷ []) rest refl g.1) g.1), r),
          )) (thing_kinded thing m g.0.2)
      known_kinded line known.CondDestroy none kind x k m c g r = absurd g
      known_kinded line known.CondDestroy (and thing rest) kind x k m c g r =
          kinded_map (λ K h F lim xk xl. let i = h F lim in let low = under i.2 lim in (
            i.0,
            stored_fits p W main K frames (call line (Known known.CondDestroy) (and (at_place o false thing m) (shift_all o rest)) kind) x k xk xl
                ((place_arg p W main f o alone K F cond [] false thing m refl g.0 i.1 low, arguments_moved p W main f o alone K F false [] rest (rest_calls_none (setting_of p W.plan f) cond [] rest refl g.1) g.1), r),
          )) (thing_kinded thing m g.0.2)
      known_kinded line known.CondSignal none kind x k m c g r = absurd g
      known_kinded line known.CondSignal (and thing rest) kind x k m c g r =
          kinded_map (λ K h F lim xk xl. let i = h F lim in let low = under i.2 lim in (
            i.0,
            stored_fits p W main K frames (call line (Known known.CondSignal) (and (at_place o false thing m) (shift_all o rest)) kind) x k xk xl
                ((place_arg p W main f o alone K F cond [] false thing m refl g.0 i.1 low, arguments_moved p W main f o alone K F false [] rest (rest_calls_none (setting_of p W.plan f) cond [] rest refl g.1) g.1), r),
          )) (thing_kinded thing m g.0.2)
      known_kinded line known.CondBroadcast none kind x k m c g r = absurd g
      known_kinded line known.CondBroadcast (and thing rest) kind x k m c g r =
          kinded_map (λ K h F lim xk xl. let i = h F lim in let low = under i.2 lim in (
            i.0,
            stored_fits p W main K frames (call line (Known known.CondBroadcast) (and (at_place o false thing m) (shift_all o rest)) kind) x k xk xl
                ((place_arg p W main f o alone K F cond [] false thing m refl g.0 i.1 low, arguments_moved p W main f o alone K F false [] rest (rest_calls_none (setting_of p W.plan f) cond [] rest refl g.1) g.1), r),
          )) (thing_kinded thing m g.0.2)
      known_kinded line known.CondWait none kind x k m c g r = absurd g
      known_kinded line known.CondWait (and one none) kind x k m c g r = absurd g.1
      known_kinded line known.CondWait (and one (and two none)) kind x k m c g r =
          let m1 = (handed_into (callees p inline) o one m).next in let g2 = handed_grows (callees p inline) o inline_grows two m1 in
          kinded_map (λ K h F lim xk xl. let i = h.0 F (le_trans g2 lim) in let j = h.1 F lim in let low = under i.2 (le_trans g2 lim) in let low1 = under j.2 lim in (
            i.0,
            (
              place_inside p W main f o alone K F frames one m (thing_handed (setting_of p W.plan f) cond [] one refl g.0) (cond_length (setting_of p W.plan f) (meant_by one) g.0.1) i.1 low,
              (
                j.0,
                stored_fits p W main K frames (call line (Known known.CondWait) (and (at_place o true one m) (and (at_place o false two m1) none)) kind) x k xk xl
                    ((place_arg p W main f o alone K F cond [] true one m refl g.0 i.1 low, (place_arg p W main f o alone K F mutex [] false two m1 refl g.1.0 j.1 low1, tt)), r),
              ),
            ),
          ))
          (kinded_two (handed_grows (callees p inline) o inline_grows one m) g2 (thing_kinded one m g.0.2) (thing_kinded two m1 g.1.0.2))
      known_kinded line known.CondWait (and one (and two (and e rest))) kind x k m c g r = absurd (false≢true g.1.1.0)
      known_kinded line known.Create none kind x k m c g r = absurd g
      known_kinded line known.Create (and thread none) kind x k m c g r = absurd g.1
      known_kinded line known.Create (and thread (and attribute none)) kind x k m c g r = absurd g.1.1
      known_kinded line known.Create (and thread (and attribute (and begins none))) kind x k m c g r = absurd g.1.1.1
      known_kinded line known.Create (and thread (and attribute (and begins (and e none)))) kind x k m c g r =
          let m1 = (handed_into (callees p inline) o thread m).next in let ge = grow e m1 (kind_of e) (suc m1) in
          kinded_map (λ K h F lim xk xl. let lim1 = le_trans (le_trans (up m1) ge) lim in let i = h.0 F lim1 in let low = under i.2 lim1 in let low1 = under ge lim in (
            i.0,
            (
              place_inside p W main f o alone K F frames thread m (thing_handed (setting_of p W.plan f) new_thread [] thread refl g.0) (thread_length (setting_of p W.plan f) (meant_by thread) g.0.1) i.1 low,
              (
                h.1.1 F lim h.1.0 low1,
                stored_fits p W main K frames (call line (Known known.Create) (and (at_place o true thread m) (and (shift o attribute) (and (shift o begins) (and (temp m1 (kind_of e)) none)))) kind) x k xk xl (
                  (
                    place_arg p W main f o alone K F new_thread [] true thread m refl g.0 i.1 low,
                    (
                      argument_moved p W main f o alone K F no_attribute attribute g.1.0 (λ s. scoped_moved p W main f o alone K F attribute (attribute_calls_none attribute g.1.0.1) s) (λ i. indexed_moved p W main f o alone K F attribute (attribute_calls_none attribute g.1.0.1) i),
                      (start_moved p W main f o alone K F begins g.1.1.0, ((temp_fits p W main K m1 (kind_of e) h.1.0 low1, refl), tt)),
                    ),
                  ),
                  r,
                ),
              ),
            ),
          ))
          (kinded_two (handed_grows (callees p inline) o inline_grows thread m) (le_trans (up m1) ge) (thing_kinded thread m g.0.2) (kinded_two (up m1) ge (kinded_temp m1 (kind_of e)) (into_kinded e m1 (kind_of e) (suc m1) g.1.1.1.0.0)))
      known_kinded line known.Create (and thread (and attribute (and begins (and e (and e2 rest))))) kind x k m c g r = absurd (false≢true g.1.1.1.1.0)
      known_kinded line known.NondetInt none kind x k m c g r = absurd (false≢true c)
      known_kinded line known.NondetInt (and e rest) kind x k m c g r = absurd (false≢true g.0)
      known_kinded line known.NondetUint none kind x k m c g r = absurd (false≢true c)
      known_kinded line known.NondetUint (and e rest) kind x k m c g r = absurd (false≢true g.0)
      known_kinded line known.Error none kind x k m c g r = absurd (false≢true c)
      known_kinded line known.Error (and e rest) kind x k m c g r = absurd (false≢true g.0)
      known_kinded line known.ReachError none kind x k m c g r = absurd (false≢true c)
      known_kinded line known.ReachError (and e rest) kind x k m c g r = absurd (false≢true g.0)
      known_kinded line known.Abort none kind x k m c g r = absurd (false≢true c)
      known_kinded line known.Abort (and e rest) kind x k m c g r = absurd (false≢true g.0)
      known_kinded line known.AtomicBegin none kind x k m c g r = absurd (false≢true c)
      known_kinded line known.AtomicBegin (and e rest) kind x k m c g r = absurd (false≢true g.0)
      known_kinded line known.AtomicEnd none kind x k m c g r = absurd (false≢true c)
      known_kinded line known.AtomicEnd (and e rest) kind x k m c g r = absurd (false≢true g.0)
