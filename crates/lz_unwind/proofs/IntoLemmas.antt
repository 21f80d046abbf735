-- The value of an expression into a local, calls inlined: both sides correspond.
use Rattle.std.proofs.Common.{◌≡◌, ℕ, suc, ◌+◌, ◌<◌, ◌≤◌, Bool, true, false, ◌||◌, List, [], ◌∷◌, length, Option, Some, None, if◌then◌else◌, refl, sym, ap, ap₂, ◌∙◌, subst, arith, le_refl, le_trans}
use Rattle.std.proofs.lemmas.Bool.{false≢true}
use Rattle.lz_base.specs.Words.{is_true, truth}
use Rattle.lz_base.specs.declared.word.IntType.{IntType}
use Rattle.lz_base.specs.declared.word.IntType.TheVariants.{Int, Unsigned}
use Rattle.lz_base.specs.declared.operator.Binary.{Binary}
use Rattle.lz_base.specs.declared.operator.Binary.TheVariants as ops
use Rattle.lz_tree.specs.declared.scoped.KnownName.{KnownName}
use Rattle.lz_tree.specs.declared.scoped.Object.{Object}
use Rattle.lz_tree.specs.declared.scoped.Object.TheVariants.{Local, Cell, Mutex, Cond, Handle, Routine, Known}
use Rattle.lz_tree.specs.ScopedTrees.{ScopedExpression, constant, null, text, object, address, paren, unary, cast, binary, choose, assign, step, call, lvalue, ScopedIndex, whole, element, ScopedExpressions, none, and}
use Rattle.lz_model.specs.Behaviours.{Behaviour, ends_with, ◌and_then◌, ◌gives◌, picks}
use Rattle.lz_model.specs.CodeTraces.{is_object_argument, objects_trace, values_trace, known_trace, first_of, Locals, Calls, no_calls, set_local, read_at, write_at, len_of, kind_of_object, kind_of, kind_or, checks_index, expression_trace, index_trace, place_trace, right_operand, operated, assigned, stepped, checks_divisor, value_kind, way_of, behind_first, arguments_trace, passed, kinds_of, entered}
use Rattle.lz_agree.proofs.CorrespondsLemmas.{corresponds_leaves, corresponds_value, corresponds_less, corresponds_same_then, corresponds_picks, corresponds_quiet_left, corresponds_quiet_right, corresponds_quiet_tail, corresponds_value_quiet, corresponds_gives_left, corresponds_gives_right}
use Rattle.lz_agree.proofs.QuietLemmas.{quiet_value, quiet_loc, quiet_then}
use Rattle.lz_agree.proofs.SameLemmas.{same_refl, same_trans, same_then, then_assoc, gives_then, corresponds_same_left, corresponds_same_right}
use Rattle.lz_agree.specs.Correspondence.{Corresponds}
use Rattle.lz_tree.specs.declared.scoped.KnownName.TheVariants as known
use Rattle.lz_bound.specs.BoundedTrees.{evals}
use Rattle.lz_bound.specs.BoundedTraces.{through, passes, stores, bounded_trace}
use Rattle.lz_tree.specs.WellFormed.{is_logical}
use Rattle.lz_tree.specs.WellScoped.{Form, some_value, no_attribute, new_thread, made_thread, mutex, cond, IsArgument, IsIndexed, IsStart, IsFormat, kind_at, HasValue, Setting, IsInteger, IsScoped, IsIndex, AreValues, number_of, AreArguments, forms_of, takes_more}
use Rattle.lz_unwind.proofs.CallsLemmas.{finish_as, quiet_gives, quiet_temp, quiet_stored, near_more, finish, corresponds_seq, corresponds_seq_tail, quiet_locs, passed_same, corresponds_in_frame, Passed, first_and_rest, callee_near, Called, called, CallsCorrespond}
use Rattle.lz_unwind.proofs.MovedLemmas.{is_object_argument-shift, known_same, scoped_no_object, objects_correspond, values_correspond, IsKept, address_kept, object_kept, kind_at-shift, Steps, steps_same, steps_passed, steps_trans, Passes, shift_corresponds, corresponds_passed_then, read_corresponds, write_corresponds, divisor_corresponds, after_plain, kind_of_object-moved}
use Rattle.lz_unwind.specs.Moved.{moved, shift, shift_all, has_call, index_has_call, all_have_call}
use Rattle.lz_unwind.specs.Pieces.{one_object, two_objects, creation, Callees, target_of, shape_of, Made, temp, made, after_, head_kind, tail_kinds, at_temp, inside_of, tested, int_constant, store, operands}
use Rattle.lz_unwind.specs.Relation.{Valued, Near, Into, Chain}
use Rattle.lz_unwind.specs.Translation.{printed_into, discarded, known_into, into, index_into, arguments_into}
use Rattle.lz_unwind.proofs.PiecesLemmas.{quiet_values_first, quiet_objects_first, quiet_objects_of, IsFixed, attribute_fixed, start_fixed, index_in, more_values, takes_object, thing_handed, rest_calls_none, chain_start, chain_then, chain_steps, into_chain, valued_of, recast, joint_left, joint_right, spilled, stays_in, by_call, store_quiet, store_tail, chain_more, into_more, wider, quiet_truth, at_kept, quiet_index, temp_checked, inside_corresponds, quiet_tested, corresponds_passed_seq, written, Spilled, IndexAt}

-- two operands, each in a temporary
module _ {Back : Type 0} (calls : Calls) (o l : ℕ) (line : ℕ) (p q : ScopedExpression) (kind : Option IntType) (x : ℕ) (k : IntType) (m : ℕ) (first : Made) (second : ℕ → Made) {s t : Locals} (a : o + l < x) (b : x < m)
    (one : Corresponds Back (expression_trace calls p) s (bounded_trace first.tree) t (λ v s' u t'. (u ≡ through) × Spilled o l m first.next t v s' t'))
    (two : (n : ℕ) (s t : Locals) → Near o l n s t → Corresponds Back (expression_trace calls q) s (bounded_trace (second n).tree) t (λ v s' u t'. (u ≡ through) × Spilled o l n (second n).next t v s' t'))
    (more : (n : ℕ) → n ≤ (second n).next) where
  plain_operands : (op : Binary) → is_logical op ≡ false →
      Corresponds Back (expression_trace calls p and_then λ v. expression_trace calls q and_then λ y. checks_divisor line op (right_operand op (kind_of p) (kind_of q) y) gives λ _. operated op (kind_of p) (kind_of q) v y) s
      (bounded_trace (after_ first λ m'. after_ (second m') λ m''. made (store (binary line op (temp m (kind_of p)) (temp m' (kind_of q)) kind) x k) m'').tree) t
      (λ v s' u t'. (u ≡ through) × Into kind o l x m (second first.next).next t v s' t')
  plain_operands op plain =
      corresponds_seq one (λ v s1 t1 h1. corresponds_seq (two first.next s1 t1 h1.chain.near) (λ y s2 t2 h2.
      store_tail (kind_or kind) k kind a b (chain_then h1.chain h2.chain) (corresponds_quiet_right (quiet_temp m v (kind_of p) (stays_in h1 h2.chain))
      (rw (after_plain line op (kind_of p) (kind_of q) (expression_trace no_calls (temp first.next (kind_of q))) v plain)
      (corresponds_quiet_right (quiet_temp first.next y (kind_of q) h2.value) (corresponds_gives_left (corresponds_gives_right (corresponds_less (divisor_corresponds line op (right_operand op (kind_of p) (kind_of q) y))
      (λ z s' u t' g. (refl, steps_passed (steps_same h2.chain.near) g.1))))))))))

  operands_correspond : (op : Binary) →
      Corresponds Back (expression_trace calls p and_then λ v. behind_first line op (kind_of p) (kind_of q) (expression_trace calls q) v) s
      (bounded_trace (operands line op (kind_of p) (kind_of q) kind x k m first second).tree) t
      (λ v s' u t'. (u ≡ through) × Into kind o l x m (operands line op (kind_of p) (kind_of q) kind x k m first second).next t v s' t')
  operands_correspond ops.Both =
      corresponds_seq one (λ v s1 t1 h1. corresponds_quiet_left quiet_loc (corresponds_quiet_right (quiet_temp m v (kind_of p) h1.value) (corresponds_quiet_right quiet_loc (corresponds_picks (is_true v)
      (λ _. corresponds_gives_left (corresponds_seq_tail {Mid = λ y s' t'. Spilled o l first.next (second first.next).next t1 y s' t'} (two first.next s1 t1 h1.chain.near) (λ y s2 t2 h2.
      (through, set_local x (truth (is_true y)) t2, quiet_then (quiet_truth first.next y (kind_of q) h2.value) (quiet_stored Int x (truth (is_true y)) k), (refl, finish (truth (is_true y)) a b (chain_then h1.chain h2.chain))))))
      (λ _. corresponds_value_quiet (quiet_then quiet_value (quiet_stored Int x 0 k)) (refl, finish 0 a b (chain_more (more first.next) h1.chain)))))))
  operands_correspond ops.Either =
      corresponds_seq one (λ v s1 t1 h1. corresponds_quiet_left quiet_loc (corresponds_quiet_right (quiet_temp m v (kind_of p) h1.value) (corresponds_quiet_right quiet_loc (corresponds_picks (is_true v)
      (λ _. corresponds_value_quiet (quiet_then quiet_value (quiet_stored Int x 1 k)) (refl, finish 1 a b (chain_more (more first.next) h1.chain)))
      (λ _. corresponds_gives_left (corresponds_seq_tail {Mid = λ y s' t'. Spilled o l first.next (second first.next).next t1 y s' t'} (two first.next s1 t1 h1.chain.near) (λ y s2 t2 h2.
      (through, set_local x (truth (is_true y)) t2, quiet_then (quiet_truth first.next y (kind_of q) h2.value) (quiet_stored Int x (truth (is_true y)) k), (refl, finish (truth (is_true y)) a b (chain_then h1.chain h2.chain))))))))))
  operands_correspond ops.Mul = plain_operands ops.Mul refl
  operands_correspond ops.Div = plain_operands ops.Div refl
  operands_correspond ops.Rem = plain_operands ops.Rem refl
  operands_correspond ops.Add = plain_operands ops.Add refl
  operands_correspond ops.Sub = plain_operands ops.Sub refl
  operands_correspond ops.Shl = plain_operands ops.Shl refl
  operands_correspond ops.Shr = plain_operands ops.Shr refl
  operands_correspond ops.Lt = plain_operands ops.Lt refl
  operands_correspond ops.Gt = plain_operands ops.Gt refl
  operands_correspond ops.Le = plain_operands ops.Le refl
  operands_correspond ops.Ge = plain_operands ops.Ge refl
  operands_correspond ops.Eq = plain_operands ops.Eq refl
  operands_correspond ops.Ne = plain_operands ops.Ne refl
  operands_correspond ops.BitAnd = plain_operands ops.BitAnd refl
  operands_correspond ops.BitXor = plain_operands ops.BitXor refl
  operands_correspond ops.BitOr = plain_operands ops.BitOr refl

module _ (env : Callees) (o : ℕ)
    (grows : (e : ScopedExpression) (x : ℕ) (k : IntType) (m : ℕ) → m ≤ (into env o e x k m).next) where
  pub arguments_grow : (es : ScopedExpressions) (ks : List IntType) (x m : ℕ) → m ≤ (arguments_into env o es ks x m).next
  arguments_grow none ks x m = le_refl m
  arguments_grow (and e es) ks x m = le_trans (grows e x (head_kind ks) m) (arguments_grow es (tail_kinds ks) (suc x) (into env o e x (head_kind ks) m).next)

module _ {Back : Type 0} (w : Setting) (calls : Calls) (env : Callees) (o : ℕ) (untested : w.tested ≡ false)
    (grows : (e : ScopedExpression) (x : ℕ) (k : IntType) (m : ℕ) → m ≤ (into env o e x k m).next) where
  -- an expression with no call, in one piece
  plainly : (e : ScopedExpression) (x : ℕ) (k : IntType) (m : ℕ) {s t : Locals} → IsScoped w e → Near o w.locals m s t → o + w.locals < x → x < m → has_call e ≡ false →
      Corresponds Back (expression_trace calls e) s (bounded_trace (store (shift o e) x k)) t (λ v s' u t'. (u ≡ through) × Into (kind_at e) o w.locals x m m t v s' t')
  plainly e x k m f n a b c = rw (kind_at-shift o e) (store_tail (kind_of (shift o e)) k (kind_at e) a b (chain_start n) (shift_corresponds w o m calls e c f n))

  pub to_spill : (e : ScopedExpression) (m : ℕ) {s t : Locals} → HasValue e → o + w.locals < m →
      Corresponds Back (expression_trace calls e) s (bounded_trace (into env o e m (kind_of e) (suc m)).tree) t (λ v s' u t'. (u ≡ through) × Into (kind_at e) o w.locals m (suc m) (into env o e m (kind_of e) (suc m)).next t v s' t') →
      Corresponds Back (expression_trace calls e) s (bounded_trace (into env o e m (kind_of e) (suc m)).tree) t (λ v s' u t'. (u ≡ through) × Spilled o w.locals m (into env o e m (kind_of e) (suc m)).next t v s' t')
  to_spill e m known a h = corresponds_less h (λ v s' u t' g. (g.0, spilled (valued_of e known) a (grows e m (kind_of e) (suc m)) g.1))

  -- `target op= e` with its index in a temporary: the check, the read, the value, the write
  pub update_corresponds : (line at : ℕ) (op : Binary) (meant : Object) (index : ScopedIndex) (checked : Bool) (e : ScopedExpression) (kind : Option IntType) (x : ℕ) (k : IntType) (m m' i : ℕ) {s t t0 : Locals} →
      IsInteger w meant → IsIndex w meant checked index → is_logical op ≡ false → o + w.locals < x → x < m → IndexAt o w.locals m m' index t0 i s t →
      ((n : ℕ) (s t : Locals) → Near o w.locals n s t → Corresponds Back (expression_trace calls e) s (bounded_trace (into env o e n (kind_of e) (suc n)).tree) t (λ v s' u t'. (u ≡ through) × Spilled o w.locals n (into env o e n (kind_of e) (suc n)).next t v s' t')) →
      Corresponds Back (checks_index at meant index checked i and_then λ _. read_at line meant i and_then λ old. expression_trace calls e and_then λ b.
      checks_divisor line op (right_operand op (kind_of_object meant) (kind_of e) b) and_then λ _. write_at line meant i (assigned op (kind_of_object meant) (kind_of e) old b)) s
      (bounded_trace (after_ (made (inside_of at meant index m) m') λ m'.
      after_ (made (store (object (lvalue line (moved o meant) (at_temp index m) (tested index)) (Some (kind_of_object meant))) m' (kind_of_object meant)) (suc m')) λ m''.
      after_ (into env o e m'' (kind_of e) (suc m'')) λ m'''.
      made (store (assign line None (lvalue at (moved o meant) (at_temp index m) (tested index))
      (binary line op (temp m' (kind_of_object meant)) (temp m'' (kind_of e)) (Some (value_kind (way_of op) (kind_of_object meant) (kind_of e)))) kind) x k) m''').tree) t
      (λ v s' u t'. (u ≡ through) × Into kind o w.locals x m (into env o e (suc m') (kind_of e) (suc (suc m'))).next t0 v s' t')
  update_corresponds line at op meant index checked e kind x k m m' i {s} {t} {t0} f g l a b h value =
      corresponds_passed_seq (inside_corresponds w at meant index checked m i untested g h.ready h.at) (λ _ below.
      corresponds_seq (corresponds_less (store_tail (kind_of_object meant) (kind_of_object meant) (Some (kind_of_object meant)) h.chain.near.room (omega arith) (chain_start (near_more (omega arith) h.chain.near))
      (corresponds_quiet_right (quiet_then (quiet_index m i index h.ready h.at) (quiet_gives (quiet_tested o line meant index m i below))) (read_corresponds w line meant i f below (near_more (omega arith) h.chain.near))))
      (λ v s' u t' c. (c.0, spilled tt h.chain.near.room (le_refl (suc m')) c.1))) (λ old s2 t2 h2.
      corresponds_seq (value (suc m') s2 t2 h2.chain.near) (λ v s3 t3 h3.
      let kept = chain_then h.chain (chain_then h2.chain h3.chain) in
      store_tail (kind_or kind) k kind a b kept (corresponds_quiet_right (quiet_index m i index h.ready (at_kept index h (chain_then h2.chain h3.chain)))
      (written w line at op meant index e kind m m' i old v f l below (stays_in h2 h3.chain) h3.value h3.chain.near)))))

  -- the check, the read and the rest of a place whose index stands in a temporary
  place_rest : (line : ℕ) (meant : Object) (index : ScopedIndex) (checked : Bool) (m m' i : ℕ) {s t t0 : Locals} → IsIndex w meant checked index → IndexAt o w.locals m m' index t0 i s t →
      Corresponds Back (checks_index line meant index checked i gives λ _. i) s (place_trace no_calls (lvalue line (moved o meant) (at_temp index m) false)) t (λ a s' b t'. (b ≡ a) × Passes ((a ≡ i) × (i < len_of meant)) s t s' t')
  place_rest line meant index checked m m' i f h =
      corresponds_gives_left (corresponds_quiet_right (quiet_index m i index h.ready h.at) (corresponds_gives_right (corresponds_less (temp_checked o w line meant index checked m i untested f h.ready)
      (λ a s' b t' p. (refl, record { left = p.1.left; right = p.1.right; holds_ = (refl, p.1.holds_) })))))

  placed_then : {A C : Type 0} (line : ℕ) (meant : Object) (index : ScopedIndex) (checked : Bool) (m m' i : ℕ) {s t t0 : Locals} {next : ℕ → Behaviour Locals A} {next' : ℕ → Behaviour Locals C} {Post : A → Locals → C → Locals → Type 0} →
      IsIndex w meant checked index → IndexAt o w.locals m m' index t0 i s t → (i < len_of meant → Corresponds Back (next i) s (next' i) t Post) →
      Corresponds Back ((checks_index line meant index checked i gives λ _. i) and_then next) s (place_trace no_calls (lvalue line (moved o meant) (at_temp index m) false) and_then next') t Post
  placed_then line meant index checked m m' i {s} {t} {t0} {next} {next'} {Post} f h rest =
      corresponds_same_then {Mid = λ a s' t'. Passes ((a ≡ i) × (i < len_of meant)) s t s' t'} (place_rest line meant index checked m m' i f h) (λ a s' t' p.
      subst (λ (z : ℕ). Corresponds Back (next z) s' (next' z) t' Post) (sym p.holds_.0) (subst (λ (z : Locals). Corresponds Back (next i) z (next' i) t' Post) (sym p.left) (subst (λ (z : Locals). Corresponds Back (next i) s (next' i) z Post) (sym p.right) (rest p.holds_.1))))

  -- ---- known names

  -- a known name at the same objects
  known_alike : (line : ℕ) (name : KnownName) (os os' vs : List ℕ) {n : ℕ} {s t : Locals} → os' ≡ os → Near o w.locals n s t →
      Corresponds Back (known_trace line name os vs) s (known_trace line name os' vs) t (λ v s' u t'. (u ≡ v) × Steps o w.locals n t s' t')
  known_alike line name os os' vs {n} {s} {t} e near =
      subst (λ (zs : List ℕ). Corresponds Back (known_trace line name os vs) s (known_trace line name zs vs) t (λ v s' u t'. (u ≡ v) × Steps o w.locals n t s' t')) (sym e) (known_same line name os vs near)

  -- the value of an argument, and those of the rest
  values_active : {A B : Type 0} (c : Calls) (e : ScopedExpression) (rest : ScopedExpressions) {K : List ℕ → Behaviour Locals A} {s : Locals} {Q : Behaviour Locals B} {t : Locals} {Post : A → Locals → B → Locals → Type 0} → is_object_argument e ≡ false →
      Corresponds Back (expression_trace c e and_then λ v. values_trace c rest and_then λ vs. K (v ∷ vs)) s Q t Post → Corresponds Back (values_trace c (and e rest) and_then K) s Q t Post
  values_active c e rest {K} {s} {Q} {t} {Post} bare h =
      subst (λ (b : Bool). Corresponds Back (picks b (values_trace c rest) (expression_trace c e and_then λ v. values_trace c rest gives λ vs. v ∷ vs) and_then K) s Q t Post) (sym bare)
      (corresponds_same_left (same_trans (same_then same_refl (λ v. gives_then _ _ _)) (then_assoc _ _ _)) h)

  -- objects and values with no call, and the known name
  rest_corresponds : (line : ℕ) (name : KnownName) (forms : List Form) (rest : ScopedExpressions) (c c' : ℕ) {n : ℕ} {s t : Locals} → c' ≡ c → all_have_call rest ≡ false → AreArguments w false forms rest → Near o w.locals n s t →
      Corresponds Back ((objects_trace calls rest gives λ os. c ∷ os) and_then λ os. values_trace calls rest and_then λ vs. known_trace line name os vs) s
      ((objects_trace no_calls (shift_all o rest) gives λ os. c' ∷ os) and_then λ os. values_trace no_calls (shift_all o rest) and_then λ vs. known_trace line name os vs) t (λ v s' u t'. (u ≡ v) × Steps o w.locals n t s' t')
  rest_corresponds line name forms rest c c' {n} {s} {t} e bare f near =
      corresponds_same_then {Mid = λ os s' t'. Steps o w.locals n t s' t'} (corresponds_gives_left (corresponds_gives_right (corresponds_less (objects_correspond w o n calls false forms rest bare f near)
      (λ xs s' ys t' g. (ap₂ (λ (z : ℕ) (zs : List ℕ). z ∷ zs) e g.0, g.1))))) (λ os s1 t1 h1.
      corresponds_same_then (values_correspond w o n calls false forms rest bare f h1.near) (λ vs s2 t2 h2.
      corresponds_less (known_same line name os vs h2.near) (λ v s' u t' h. (h.0, steps_trans h1 (steps_trans h2 h.1)))))

  -- one object, its index in a temporary, which the known name checks
  one_place : (line : ℕ) (name : KnownName) (at : ℕ) (meant : Object) (index : ScopedIndex) (checked : Bool) (forms : List Form) (rest : ScopedExpressions) (kind : Option IntType) (x : ℕ) (k : IntType) (m : ℕ) {s t : Locals} →
      IsKept o w meant index checked → all_have_call rest ≡ false → AreArguments w false forms rest → o + w.locals < x → x < m →
      Corresponds Back (index_trace calls index) s (bounded_trace (index_into env o index m (suc m)).tree) t (λ i s' u t'. (u ≡ through) × IndexAt o w.locals m (index_into env o index m (suc m)).next index t i s' t') →
      Corresponds Back (((place_trace calls (lvalue at meant index checked) gives λ i. first_of meant + i) and_then λ ob. objects_trace calls rest gives λ os. ob ∷ os) and_then λ os. values_trace calls rest and_then λ vs. known_trace line name os vs) s
      (bounded_trace (index_into env o index m (suc m)).tree and_then λ u. passes u
      ((((place_trace no_calls (lvalue at (moved o meant) (at_temp index m) false) gives λ i. first_of (moved o meant) + i) and_then λ ob. objects_trace no_calls (shift_all o rest) gives λ os. ob ∷ os) and_then λ os. values_trace no_calls (shift_all o rest) and_then λ vs. known_trace line name os vs)
      and_then λ v. stores (kind_or kind) (target_of kind x k) v)) t
      (λ v s' u t'. (u ≡ through) × Into kind o w.locals x m (index_into env o index m (suc m)).next t v s' t')
  one_place line name at meant index checked forms rest kind x k m kept bare f a b ix =
      corresponds_same_left (then_assoc _ _ _) (corresponds_same_left (gives_then _ _ _) (corresponds_same_left (then_assoc _ _ _) (corresponds_seq ix (λ i s1 t1 h1.
      store_tail (kind_or kind) k kind a b h1.chain (corresponds_same_right (then_assoc _ _ _) (corresponds_same_right (gives_then _ _ _)
      (placed_then at meant index checked m _ i kept.index_ h1 (λ below.
      rest_corresponds line name forms rest (first_of meant + i) (first_of (moved o meant) + i) (ap (λ (z : ℕ). z + i) kept.first) bare f h1.chain.near))))))))

  -- two objects: the first is checked before the second, which the known name checks
  two_places : (line : ℕ) (name : KnownName) (at : ℕ) (meant : Object) (index : ScopedIndex) (checked : Bool) (at' : ℕ) (meant' : Object) (index' : ScopedIndex) (checked' : Bool) (kind : Option IntType) (x : ℕ) (k : IntType) (m : ℕ) {s t : Locals} →
      IsKept o w meant index checked → IsKept o w meant' index' checked' → o + w.locals < x → x < m →
      Corresponds Back (index_trace calls index) s (bounded_trace (index_into env o index m (suc m)).tree) t (λ i s' u t'. (u ≡ through) × IndexAt o w.locals m (index_into env o index m (suc m)).next index t i s' t') →
      ((n : ℕ) (s t : Locals) → Near o w.locals n s t → Corresponds Back (index_trace calls index') s (bounded_trace (index_into env o index' n (suc n)).tree) t (λ i s' u t'. (u ≡ through) × IndexAt o w.locals n (index_into env o index' n (suc n)).next index' t i s' t')) →
      Corresponds Back (((place_trace calls (lvalue at meant index checked) gives λ i. first_of meant + i) and_then λ ob.
      ((place_trace calls (lvalue at' meant' index' checked') gives λ i. first_of meant' + i) and_then λ ob'. ends_with [] gives λ os. ob' ∷ os) gives λ os. ob ∷ os) and_then λ os. ends_with [] and_then λ vs. known_trace line name os vs) s
      (bounded_trace (index_into env o index m (suc m)).tree and_then λ u. passes u (bounded_trace (inside_of at meant index m) and_then λ u. passes u
      (bounded_trace (index_into env o index' (index_into env o index m (suc m)).next (suc (index_into env o index m (suc m)).next)).tree and_then λ u. passes u
      ((((place_trace no_calls (lvalue at (moved o meant) (at_temp index m) (tested index)) gives λ i. first_of (moved o meant) + i) and_then λ ob.
      ((place_trace no_calls (lvalue at' (moved o meant') (at_temp index' (index_into env o index m (suc m)).next) false) gives λ i. first_of (moved o meant') + i) and_then λ ob'. ends_with [] gives λ os. ob' ∷ os) gives λ os. ob ∷ os)
      and_then λ os. ends_with [] and_then λ vs. known_trace line name os vs) and_then λ v. stores (kind_or kind) (target_of kind x k) v)))) t
      (λ v s' u t'. (u ≡ through) × Into kind o w.locals x m (index_into env o index' (index_into env o index m (suc m)).next (suc (index_into env o index m (suc m)).next)).next t v s' t')
  two_places line name at meant index checked at' meant' index' checked' kind x k m kept kept' a b ix ix' =
      let m' = (index_into env o index m (suc m)).next in
      corresponds_same_left (then_assoc _ _ _) (corresponds_same_left (gives_then _ _ _) (corresponds_same_left (then_assoc _ _ _) (corresponds_seq ix (λ i s1 t1 h1.
      corresponds_same_left (gives_then _ _ _) (corresponds_passed_seq (inside_corresponds w at meant index checked m i untested kept.index_ h1.ready h1.at) (λ _ below.
      corresponds_same_left (gives_then _ _ _) (corresponds_same_left (then_assoc _ _ _) (corresponds_same_left (gives_then _ _ _) (corresponds_same_left (then_assoc _ _ _) (corresponds_seq (ix' m' s1 t1 h1.chain.near) (λ j s2 t2 h2.
      store_tail (kind_or kind) k kind a b (chain_then h1.chain h2.chain)
      (corresponds_same_right (then_assoc _ _ _) (corresponds_quiet_right (quiet_gives (quiet_then (quiet_index m i index h1.ready (at_kept index h1 h2.chain)) (quiet_gives (quiet_tested o at meant index m i below))))
      (corresponds_same_right (gives_then _ _ _) (corresponds_same_right (then_assoc _ _ _) (corresponds_same_right (gives_then _ _ _)
      (placed_then at' meant' index' checked' m' _ j kept'.index_ h2 (λ _.
      corresponds_quiet_left (quiet_gives quiet_value) (corresponds_quiet_left quiet_value (corresponds_quiet_right (quiet_gives quiet_value) (corresponds_quiet_right quiet_value
      (known_alike line name ((first_of meant + i) ∷ (first_of meant' + j) ∷ []) ((first_of (moved o meant) + i) ∷ (first_of (moved o meant') + j) ∷ []) []
      (ap₂ (λ (y z : ℕ). (y + i) ∷ (z + j) ∷ []) kept.first kept'.first) h2.chain.near))))))))))))))))))))))

  -- a thread object, whose index is checked before the argument of the routine is evaluated
  creation_place : (line : ℕ) (name : KnownName) (at : ℕ) (meant : Object) (index : ScopedIndex) (checked : Bool) (attribute begins e : ScopedExpression) (va vb : ℕ) (kind : Option IntType) (x : ℕ) (k : IntType) (m : ℕ) {s t : Locals} →
      IsKept o w meant index checked → IsFixed calls o attribute va → IsFixed calls o begins vb → IsScoped w e → HasValue e → o + w.locals < x → x < m →
      Corresponds Back (index_trace calls index) s (bounded_trace (index_into env o index m (suc m)).tree) t (λ i s' u t'. (u ≡ through) × IndexAt o w.locals m (index_into env o index m (suc m)).next index t i s' t') →
      ((n : ℕ) (s t : Locals) → Near o w.locals n s t → Corresponds Back (expression_trace calls e) s (bounded_trace (into env o e n (kind_of e) (suc n)).tree) t (λ v s' u t'. (u ≡ through) × Spilled o w.locals n (into env o e n (kind_of e) (suc n)).next t v s' t')) →
      Corresponds Back (((place_trace calls (lvalue at meant index checked) gives λ i. first_of meant + i) and_then λ ob. objects_trace calls (and attribute (and begins (and e none))) gives λ os. ob ∷ os)
      and_then λ os. values_trace calls (and attribute (and begins (and e none))) and_then λ vs. known_trace line name os vs) s
      (bounded_trace (index_into env o index m (suc m)).tree and_then λ u. passes u (bounded_trace (inside_of at meant index m) and_then λ u. passes u
      (bounded_trace (into env o e (index_into env o index m (suc m)).next (kind_of e) (suc (index_into env o index m (suc m)).next)).tree and_then λ u. passes u
      ((((place_trace no_calls (lvalue at (moved o meant) (at_temp index m) (tested index)) gives λ i. first_of (moved o meant) + i) and_then λ ob.
      objects_trace no_calls (and (shift o attribute) (and (shift o begins) (and (temp (index_into env o index m (suc m)).next (kind_of e)) none))) gives λ os. ob ∷ os)
      and_then λ os. values_trace no_calls (and (shift o attribute) (and (shift o begins) (and (temp (index_into env o index m (suc m)).next (kind_of e)) none))) and_then λ vs. known_trace line name os vs)
      and_then λ v. stores (kind_or kind) (target_of kind x k) v)))) t
      (λ v s' u t'. (u ≡ through) × Into kind o w.locals x m (into env o e (index_into env o index m (suc m)).next (kind_of e) (suc (index_into env o index m (suc m)).next)).next t v s' t')
  creation_place line name at meant index checked attribute begins e va vb kind x k m kept fa fb scoped known a b ix value =
      let m' = (index_into env o index m (suc m)).next in
      let bare = scoped_no_object w e scoped in
      let na = is_object_argument-shift o attribute ∙ fa.no in
      let nb = is_object_argument-shift o begins ∙ fb.no in
      corresponds_same_left (then_assoc _ _ _) (corresponds_same_left (gives_then _ _ _) (corresponds_same_left (then_assoc _ _ _) (corresponds_seq ix (λ i s1 t1 h1.
      corresponds_same_left (gives_then _ _ _) (corresponds_passed_seq (inside_corresponds w at meant index checked m i untested kept.index_ h1.ready h1.at) (λ _ below.
      corresponds_quiet_left (quiet_gives (quiet_objects_first calls attribute (and begins (and e none)) fa.no (quiet_objects_first calls begins (and e none) fb.no (quiet_objects_first calls e none bare quiet_value))))
      (values_active calls attribute (and begins (and e none)) fa.no (corresponds_quiet_left (fa.source s1)
      (values_active calls begins (and e none) fb.no (corresponds_quiet_left (fb.source s1)
      (values_active calls e none bare (corresponds_seq (value m' s1 t1 h1.chain.near) (λ v s2 t2 h2.
      corresponds_quiet_left quiet_value (store_tail (kind_or kind) k kind a b (chain_then h1.chain h2.chain)
      (corresponds_same_right (then_assoc _ _ _) (corresponds_quiet_right (quiet_gives (quiet_then (quiet_index m i index h1.ready (at_kept index h1 h2.chain)) (quiet_gives (quiet_tested o at meant index m i below))))
      (corresponds_quiet_right (quiet_gives (quiet_objects_first no_calls (shift o attribute) (and (shift o begins) (and (temp m' (kind_of e)) none)) na (quiet_objects_first no_calls (shift o begins) (and (temp m' (kind_of e)) none) nb quiet_value)))
      (corresponds_quiet_right (quiet_values_first no_calls (shift o attribute) (and (shift o begins) (and (temp m' (kind_of e)) none)) na (fa.tree t2) (quiet_values_first no_calls (shift o begins) (and (temp m' (kind_of e)) none) nb (fb.tree t2) (quiet_then (quiet_temp m' v (kind_of e) h2.value) (quiet_gives quiet_value))))
      (known_alike line name ((first_of meant + i) ∷ []) ((first_of (moved o meant) + i) ∷ []) (va ∷ vb ∷ v ∷ []) (ap (λ (z : ℕ). (z + i) ∷ []) kept.first) h2.chain.near)))))))))))))))))))

  -- one value
  value_known : (line : ℕ) (name : KnownName) (e : ScopedExpression) (kind : Option IntType) (x : ℕ) (k : IntType) (m : ℕ) {s t : Locals} → IsScoped w e → o + w.locals < x → x < m →
      Corresponds Back (expression_trace calls e) s (bounded_trace (into env o e m (kind_of e) (suc m)).tree) t (λ v s' u t'. (u ≡ through) × Spilled o w.locals m (into env o e m (kind_of e) (suc m)).next t v s' t') →
      Corresponds Back (objects_trace calls (and e none) and_then λ os. values_trace calls (and e none) and_then λ vs. known_trace line name os vs) s
      (bounded_trace (into env o e m (kind_of e) (suc m)).tree and_then λ u. passes u (bounded_trace (store (call line (Known name) (and (temp m (kind_of e)) none) kind) x k))) t
      (λ v s' u t'. (u ≡ through) × Into kind o w.locals x m (into env o e m (kind_of e) (suc m)).next t v s' t')
  value_known line name e kind x k m f a b value =
      let bare = scoped_no_object w e f in
      corresponds_quiet_left (quiet_objects_first calls e none bare quiet_value) (values_active calls e none bare (corresponds_seq value (λ v s1 t1 h1.
      corresponds_quiet_left quiet_value (store_tail (kind_or kind) k kind a b h1.chain (corresponds_quiet_right quiet_value (corresponds_quiet_right (quiet_then (quiet_temp m v (kind_of e) h1.value) (quiet_gives quiet_value))
      (known_same line name [] (v ∷ []) h1.chain.near)))))))

  -- the end of a thread: the value is passed over
  end_known : (line : ℕ) (e : ScopedExpression) (kind : Option IntType) (x : ℕ) (k : IntType) (m : ℕ) {s t : Locals} → IsScoped w e → o + w.locals < x → x < m →
      Corresponds Back (expression_trace calls e) s (bounded_trace (into env o e m (kind_of e) (suc m)).tree) t (λ v s' u t'. (u ≡ through) × Spilled o w.locals m (into env o e m (kind_of e) (suc m)).next t v s' t') →
      Corresponds Back (objects_trace calls (and e none) and_then λ os. values_trace calls (and e none) and_then λ vs. known_trace line known.Exit os vs) s
      (bounded_trace (into env o e m (kind_of e) (suc m)).tree and_then λ u. passes u (bounded_trace (store (call line (Known known.Exit) (and (null line (Some Unsigned)) none) kind) x k))) t
      (λ v s' u t'. (u ≡ through) × Into kind o w.locals x m (into env o e m (kind_of e) (suc m)).next t v s' t')
  end_known line e kind x k m f a b value =
      let bare = scoped_no_object w e f in
      corresponds_quiet_left (quiet_objects_first calls e none bare quiet_value) (values_active calls e none bare (corresponds_seq value (λ v s1 t1 h1.
      corresponds_quiet_left quiet_value (store_tail (kind_or kind) k kind a b h1.chain (corresponds_quiet_right quiet_value (corresponds_quiet_right (quiet_then quiet_value (quiet_gives quiet_value))
      corresponds_leaves))))))

  -- a text and values
  printed_known : (line : ℕ) (format : ScopedExpression) (values : ScopedExpressions) (kind : Option IntType) (x : ℕ) (k : IntType) (m : ℕ) {s t : Locals} → IsFormat format → AreValues w values → o + w.locals < x → x < m →
      Corresponds Back (values_trace calls values) s (bounded_trace (printed_into env o values m).tree) t (λ vs s' u t'. (u ≡ through) × Chain o w.locals m (printed_into env o values m).next t s' t') →
      Corresponds Back (objects_trace calls (and format values) and_then λ os. values_trace calls (and format values) and_then λ vs. known_trace line known.Printf os vs) s
      (bounded_trace (printed_into env o values m).tree and_then λ u. passes u (bounded_trace (store (int_constant 0) x k))) t
      (λ v s' u t'. (u ≡ through) × Into kind o w.locals x m (printed_into env o values m).next t v s' t')
  printed_known line (text place j) values kind x k m {s} g f a b h =
      corresponds_quiet_left (quiet_objects_of calls w values f) (values_active calls (text place j) values refl (corresponds_quiet_left quiet_value (corresponds_seq h (λ vs s1 t1 c.
      corresponds_value_quiet (quiet_then quiet_value (quiet_stored Int x 0 k)) (refl, finish 0 a b c)))))
  printed_known line e values kind x k m g f a b h = absurd g

  -- an expression with no call whose value is not used
  pub dropped : (e : ScopedExpression) (m : ℕ) {s t : Locals} → IsScoped w e → Near o w.locals m s t → has_call e ≡ false →
      Corresponds Back (expression_trace calls e) s (bounded_trace (evals (shift o e) None)) t (λ v s' u t'. (u ≡ through) × Chain o w.locals m m t s' t')
  dropped e m f n c = corresponds_quiet_tail (shift_corresponds w o m calls e c f n) (λ v s' u t' g. (through, t', quiet_value, (refl, chain_steps (chain_start n) g.1)))

  -- one object as it stands among the arguments
  one_thing : (line : ℕ) (name : KnownName) (form : Form) (forms : List Form) (thing : ScopedExpression) (rest : ScopedExpressions) (kind : Option IntType) (x : ℕ) (k : IntType) (m : ℕ) {s t : Locals} →
      takes_object form forms ≡ true → IsArgument w form thing (IsScoped w thing) (IsIndexed w thing) → AreArguments w false forms rest → o + w.locals < x → x < m →
      (IsIndexed w thing → Corresponds Back (index_trace calls (index_in thing)) s (bounded_trace (index_into env o (index_in thing) m (suc m)).tree) t (λ i s' u t'. (u ≡ through) × IndexAt o w.locals m (index_into env o (index_in thing) m (suc m)).next (index_in thing) t i s' t')) →
      Corresponds Back (objects_trace calls (and thing rest) and_then λ os. values_trace calls (and thing rest) and_then λ vs. known_trace line name os vs) s
      (bounded_trace (known_into env o one_object line name (and thing rest) kind x k m).tree) t (λ v s' u t'. (u ≡ through) × Into kind o w.locals x m (known_into env o one_object line name (and thing rest) kind x k m).next t v s' t')
  one_thing line name form forms (address l (lvalue at meant index checked) j) rest kind x k m g f h a b ix =
      let kept = address_kept o w form l at meant index checked j f in
      one_place line name at meant index checked forms rest kind x k m kept (rest_calls_none w form forms rest g h) h a b (ix kept.index_)
  one_thing line name form forms (object (lvalue at (Handle first len) index checked) j) rest kind x k m g f h a b ix =
      let kept = object_kept o w form at first len index checked j f in
      one_place line name at (Handle first len) index checked forms rest kind x k m kept (rest_calls_none w form forms rest g h) h a b (ix kept.index_)
  one_thing line name form forms (object (lvalue at (Local first len q) index checked) j) rest kind x k m g f h a b ix = absurd (false≢true (thing_handed w form forms (object (lvalue at (Local first len q) index checked) j) g f))
  one_thing line name form forms (object (lvalue at (Cell first len q) index checked) j) rest kind x k m g f h a b ix = absurd (false≢true (thing_handed w form forms (object (lvalue at (Cell first len q) index checked) j) g f))
  one_thing line name form forms (object (lvalue at (Mutex first len) index checked) j) rest kind x k m g f h a b ix = absurd (false≢true (thing_handed w form forms (object (lvalue at (Mutex first len) index checked) j) g f))
  one_thing line name form forms (object (lvalue at (Cond first len) index checked) j) rest kind x k m g f h a b ix = absurd (false≢true (thing_handed w form forms (object (lvalue at (Cond first len) index checked) j) g f))
  one_thing line name form forms (object (lvalue at (Routine q) index checked) j) rest kind x k m g f h a b ix = absurd (false≢true (thing_handed w form forms (object (lvalue at (Routine q) index checked) j) g f))
  one_thing line name form forms (object (lvalue at (Known q) index checked) j) rest kind x k m g f h a b ix = absurd (false≢true (thing_handed w form forms (object (lvalue at (Known q) index checked) j) g f))
  one_thing line name form forms (constant l v q j) rest kind x k m g f h a b ix = absurd (false≢true (thing_handed w form forms (constant l v q j) g f))
  one_thing line name form forms (null l j) rest kind x k m g f h a b ix = absurd (false≢true (thing_handed w form forms (null l j) g f))
  one_thing line name form forms (text l j) rest kind x k m g f h a b ix = absurd (false≢true (thing_handed w form forms (text l j) g f))
  one_thing line name form forms (paren l e j) rest kind x k m g f h a b ix = absurd (false≢true (thing_handed w form forms (paren l e j) g f))
  one_thing line name form forms (unary l op e j) rest kind x k m g f h a b ix = absurd (false≢true (thing_handed w form forms (unary l op e j) g f))
  one_thing line name form forms (cast l to e j) rest kind x k m g f h a b ix = absurd (false≢true (thing_handed w form forms (cast l to e j) g f))
  one_thing line name form forms (binary l op p q j) rest kind x k m g f h a b ix = absurd (false≢true (thing_handed w form forms (binary l op p q j) g f))
  one_thing line name form forms (choose l c p q j) rest kind x k m g f h a b ix = absurd (false≢true (thing_handed w form forms (choose l c p q j) g f))
  one_thing line name form forms (assign l op to e j) rest kind x k m g f h a b ix = absurd (false≢true (thing_handed w form forms (assign l op to e j) g f))
  one_thing line name form forms (step l of up before j) rest kind x k m g f h a b ix = absurd (false≢true (thing_handed w form forms (step l of up before j) g f))
  one_thing line name form forms (call l callee args j) rest kind x k m g f h a b ix = absurd (false≢true (thing_handed w form forms (call l callee args j) g f))

  -- two objects as they stand among the arguments
  second_thing : (line l at : ℕ) (meant : Object) (index : ScopedIndex) (checked : Bool) (j : Option IntType) (two : ScopedExpression) (kind : Option IntType) (x : ℕ) (k : IntType) (m : ℕ) {s t : Locals} →
      IsKept o w meant index checked → IsArgument w mutex two (IsScoped w two) (IsIndexed w two) → o + w.locals < x → x < m →
      Corresponds Back (index_trace calls index) s (bounded_trace (index_into env o index m (suc m)).tree) t (λ i s' u t'. (u ≡ through) × IndexAt o w.locals m (index_into env o index m (suc m)).next index t i s' t') →
      (IsIndexed w two → (n : ℕ) (s t : Locals) → Near o w.locals n s t → Corresponds Back (index_trace calls (index_in two)) s (bounded_trace (index_into env o (index_in two) n (suc n)).tree) t (λ i s' u t'. (u ≡ through) × IndexAt o w.locals n (index_into env o (index_in two) n (suc n)).next (index_in two) t i s' t')) →
      Corresponds Back (objects_trace calls (and (address l (lvalue at meant index checked) j) (and two none)) and_then λ os. values_trace calls (and (address l (lvalue at meant index checked) j) (and two none)) and_then λ vs. known_trace line known.CondWait os vs) s
      (bounded_trace (known_into env o two_objects line known.CondWait (and (address l (lvalue at meant index checked) j) (and two none)) kind x k m).tree) t (λ v s' u t'. (u ≡ through) × Into kind o w.locals x m (known_into env o two_objects line known.CondWait (and (address l (lvalue at meant index checked) j) (and two none)) kind x k m).next t v s' t')
  second_thing line l at meant index checked j (address l' (lvalue at' meant' index' checked') j') kind x k m kept f a b ix ix' =
      let kept' = address_kept o w mutex l' at' meant' index' checked' j' f in
      two_places line known.CondWait at meant index checked at' meant' index' checked' kind x k m kept kept' a b ix (ix' kept'.index_)
  second_thing line l at meant index checked j (object of j') kind x k m kept f a b ix ix' = absurd (false≢true f.0)
  second_thing line l at meant index checked j (constant l2 v q j2) kind x k m kept f a b ix ix' = absurd (false≢true f.0)
  second_thing line l at meant index checked j (null l2 j2) kind x k m kept f a b ix ix' = absurd (false≢true f.0)
  second_thing line l at meant index checked j (text l2 j2) kind x k m kept f a b ix ix' = absurd (false≢true f.0)
  second_thing line l at meant index checked j (paren l2 e j2) kind x k m kept f a b ix ix' = absurd (false≢true f.0)
  second_thing line l at meant index checked j (unary l2 op e j2) kind x k m kept f a b ix ix' = absurd (false≢true f.0)
  second_thing line l at meant index checked j (cast l2 to e j2) kind x k m kept f a b ix ix' = absurd (false≢true f.0)
  second_thing line l at meant index checked j (binary l2 op p r j2) kind x k m kept f a b ix ix' = absurd (false≢true f.0)
  second_thing line l at meant index checked j (choose l2 c p r j2) kind x k m kept f a b ix ix' = absurd (false≢true f.0)
  second_thing line l at meant index checked j (assign l2 op to e j2) kind x k m kept f a b ix ix' = absurd (false≢true f.0)
  second_thing line l at meant index checked j (step l2 of up before j2) kind x k m kept f a b ix ix' = absurd (false≢true f.0)
  second_thing line l at meant index checked j (call l2 callee args j2) kind x k m kept f a b ix ix' = absurd (false≢true f.0)

  two_things : (line : ℕ) (one two : ScopedExpression) (kind : Option IntType) (x : ℕ) (k : IntType) (m : ℕ) {s t : Locals} →
      IsArgument w cond one (IsScoped w one) (IsIndexed w one) → IsArgument w mutex two (IsScoped w two) (IsIndexed w two) → o + w.locals < x → x < m →
      (IsIndexed w one → Corresponds Back (index_trace calls (index_in one)) s (bounded_trace (index_into env o (index_in one) m (suc m)).tree) t (λ i s' u t'. (u ≡ through) × IndexAt o w.locals m (index_into env o (index_in one) m (suc m)).next (index_in one) t i s' t')) →
      (IsIndexed w two → (n : ℕ) (s t : Locals) → Near o w.locals n s t → Corresponds Back (index_trace calls (index_in two)) s (bounded_trace (index_into env o (index_in two) n (suc n)).tree) t (λ i s' u t'. (u ≡ through) × IndexAt o w.locals n (index_into env o (index_in two) n (suc n)).next (index_in two) t i s' t')) →
      Corresponds Back (objects_trace calls (and one (and two none)) and_then λ os. values_trace calls (and one (and two none)) and_then λ vs. known_trace line known.CondWait os vs) s
      (bounded_trace (known_into env o two_objects line known.CondWait (and one (and two none)) kind x k m).tree) t (λ v s' u t'. (u ≡ through) × Into kind o w.locals x m (known_into env o two_objects line known.CondWait (and one (and two none)) kind x k m).next t v s' t')
  two_things line (address l (lvalue at meant index checked) j) two kind x k m f g a b ix ix' =
      let kept = address_kept o w cond l at meant index checked j f in
      second_thing line l at meant index checked j two kind x k m kept g a b (ix kept.index_) ix'
  two_things line (object of j) two kind x k m f g a b ix ix' = absurd (false≢true f.0)
  two_things line (constant l v q j) two kind x k m f g a b ix ix' = absurd (false≢true f.0)
  two_things line (null l j) two kind x k m f g a b ix ix' = absurd (false≢true f.0)
  two_things line (text l j) two kind x k m f g a b ix ix' = absurd (false≢true f.0)
  two_things line (paren l e j) two kind x k m f g a b ix ix' = absurd (false≢true f.0)
  two_things line (unary l op e j) two kind x k m f g a b ix ix' = absurd (false≢true f.0)
  two_things line (cast l to e j) two kind x k m f g a b ix ix' = absurd (false≢true f.0)
  two_things line (binary l op p q j) two kind x k m f g a b ix ix' = absurd (false≢true f.0)
  two_things line (choose l c p q j) two kind x k m f g a b ix ix' = absurd (false≢true f.0)
  two_things line (assign l op to e j) two kind x k m f g a b ix ix' = absurd (false≢true f.0)
  two_things line (step l of up before j) two kind x k m f g a b ix ix' = absurd (false≢true f.0)
  two_things line (call l callee args j) two kind x k m f g a b ix ix' = absurd (false≢true f.0)

  -- a thread object with its attribute, its routine and the argument
  created_thing : (line : ℕ) (thread attribute begins e : ScopedExpression) (kind : Option IntType) (x : ℕ) (k : IntType) (m : ℕ) {s t : Locals} →
      IsArgument w new_thread thread (IsScoped w thread) (IsIndexed w thread) → IsArgument w no_attribute attribute (IsScoped w attribute) (IsIndexed w attribute) → IsStart w begins → IsArgument w some_value e (IsScoped w e) (IsIndexed w e) → o + w.locals < x → x < m →
      (IsIndexed w thread → Corresponds Back (index_trace calls (index_in thread)) s (bounded_trace (index_into env o (index_in thread) m (suc m)).tree) t (λ i s' u t'. (u ≡ through) × IndexAt o w.locals m (index_into env o (index_in thread) m (suc m)).next (index_in thread) t i s' t')) →
      ((n : ℕ) (s t : Locals) → Near o w.locals n s t → Corresponds Back (expression_trace calls e) s (bounded_trace (into env o e n (kind_of e) (suc n)).tree) t (λ v s' u t'. (u ≡ through) × Spilled o w.locals n (into env o e n (kind_of e) (suc n)).next t v s' t')) →
      Corresponds Back (objects_trace calls (and thread (and attribute (and begins (and e none)))) and_then λ os. values_trace calls (and thread (and attribute (and begins (and e none)))) and_then λ vs. known_trace line known.Create os vs) s
      (bounded_trace (known_into env o creation line known.Create (and thread (and attribute (and begins (and e none)))) kind x k m).tree) t (λ v s' u t'. (u ≡ through) × Into kind o w.locals x m (known_into env o creation line known.Create (and thread (and attribute (and begins (and e none)))) kind x k m).next t v s' t')
  created_thing line (address l (lvalue at meant index checked) j) attribute begins e kind x k m f g h d a b ix value =
      let kept = address_kept o w new_thread l at meant index checked j f in
      let fa = attribute_fixed calls o attribute g.1 in
      let fb = start_fixed calls o w begins h in
      creation_place line known.Create at meant index checked attribute begins e fa.0 fb.0 kind x k m kept fa.1 fb.1 d.0 d.1 a b (ix kept.index_) value
  created_thing line (object of j) attribute begins e kind x k m f g h d a b ix value = absurd (false≢true f.0)
  created_thing line (constant l v q j) attribute begins e kind x k m f g h d a b ix value = absurd (false≢true f.0)
  created_thing line (null l j) attribute begins e kind x k m f g h d a b ix value = absurd (false≢true f.0)
  created_thing line (text l j) attribute begins e kind x k m f g h d a b ix value = absurd (false≢true f.0)
  created_thing line (paren l e2 j) attribute begins e kind x k m f g h d a b ix value = absurd (false≢true f.0)
  created_thing line (unary l op e2 j) attribute begins e kind x k m f g h d a b ix value = absurd (false≢true f.0)
  created_thing line (cast l to e2 j) attribute begins e kind x k m f g h d a b ix value = absurd (false≢true f.0)
  created_thing line (binary l op p q j) attribute begins e kind x k m f g h d a b ix value = absurd (false≢true f.0)
  created_thing line (choose l c p q j) attribute begins e kind x k m f g h d a b ix value = absurd (false≢true f.0)
  created_thing line (assign l op to e2 j) attribute begins e kind x k m f g h d a b ix value = absurd (false≢true f.0)
  created_thing line (step l of up before j) attribute begins e kind x k m f g h d a b ix value = absurd (false≢true f.0)
  created_thing line (call l callee args j) attribute begins e kind x k m f g h d a b ix value = absurd (false≢true f.0)

  module _ (ok : ℕ → Type 0) (C : CallsCorrespond Back ok env.size calls env.inline) (fine : (g : ℕ) → w.may_call g → ok g × (length (w.params g) ≤ env.size g)) where
    mutual
      pub into_corresponds : (e : ScopedExpression) (x : ℕ) (k : IntType) (m : ℕ) {s t : Locals} → IsScoped w e → Near o w.locals m s t → o + w.locals < x → x < m →
          Corresponds Back (expression_trace calls e) s (bounded_trace (into env o e x k m).tree) t (λ v s' u t'. (u ≡ through) × Into (kind_at e) o w.locals x m (into env o e x k m).next t v s' t')
      into_corresponds (constant line v form kind) x k m f n a b = plainly (constant line v form kind) x k m f n a b refl
      into_corresponds (null line kind) x k m f n a b = plainly (null line kind) x k m f n a b refl
      into_corresponds (text line kind) x k m f n a b = absurd f
      into_corresponds (address line of kind) x k m f n a b = absurd f
      into_corresponds (object (lvalue line meant index checked) kind) x k m {s} {t} f n a b =
          by_call (index_has_call index) _ _ (λ m' v s' u t'. (u ≡ through) × Into kind o w.locals x m m' t v s' t') (plainly (object (lvalue line meant index checked) kind) x k m f n a b) (λ c.
          corresponds_same_left (then_assoc _ _ _) (corresponds_seq (index_into_corresponds meant index checked m f.2 n) (λ i s1 t1 h1.
          store_tail (kind_or kind) k kind a b h1.chain (placed_then line meant index checked m _ i f.2 h1 (λ below. read_corresponds w line meant i f.0 below h1.chain.near)))))
      into_corresponds (paren line e kind) x k m f n a b = corresponds_less (into_corresponds e x k m f.0 n a b) (λ v s' u t' g. (g.0, recast (λ known. subst Valued f.1 known) g.1))
      into_corresponds (unary line op e kind) x k m {s} {t} f n a b =
          by_call (has_call e) _ _ (λ m' v s' u t'. (u ≡ through) × Into kind o w.locals x m m' t v s' t') (plainly (unary line op e kind) x k m f n a b) (λ c.
          corresponds_gives_left (corresponds_seq_tail {Mid = λ v s' t'. Spilled o w.locals m (into env o e m (kind_of e) (suc m)).next t v s' t'} (to_spill e m f.1 n.room (into_corresponds e m (kind_of e) (suc m) f.0 (near_more (omega arith) n) n.room (omega arith))) (λ v s1 t1 h1.
          store_quiet (kind_or kind) k kind a b h1.chain (quiet_gives (quiet_temp m v (kind_of e) h1.value)))))
      into_corresponds (cast line to e kind) x k m {s} {t} f n a b =
          by_call (has_call e) _ _ (λ m' v s' u t'. (u ≡ through) × Into kind o w.locals x m m' t v s' t') (plainly (cast line to e kind) x k m f n a b) (λ c.
          corresponds_gives_left (corresponds_less (into_corresponds e x k m f.0 n a b) (λ v s' u t' g. (g.0, recast (λ known. valued_of e f.1) g.1))))
      into_corresponds (binary line op p q kind) x k m {s} {t} f n a b =
          by_call (has_call p || has_call q) _ _ (λ m' v s' u t'. (u ≡ through) × Into kind o w.locals x m m' t v s' t') (plainly (binary line op p q kind) x k m f n a b) (λ c.
          operands_correspond calls o w.locals line p q kind x k m (into env o p m (kind_of p) (suc m)) (λ m'. into env o q m' (kind_of q) (suc m')) a b
          (to_spill p m f.1 n.room (into_corresponds p m (kind_of p) (suc m) f.0 (near_more (omega arith) n) n.room (omega arith)))
          (λ n2 s2 t2 near. to_spill q n2 f.3 near.room (into_corresponds q n2 (kind_of q) (suc n2) f.2 (near_more (omega arith) near) near.room (omega arith)))
          (λ n2. le_trans (omega arith) (grows q n2 (kind_of q) (suc n2))) op)
      into_corresponds (choose line c0 p q kind) x k m {s} {t} f n a b =
          by_call (has_call c0 || (has_call p || has_call q)) _ _ (λ m' v s' u t'. (u ≡ through) × Into kind o w.locals x m m' t v s' t') (plainly (choose line c0 p q kind) x k m f n a b) (λ c.
          let K = kind_or kind in let m' = (into env o c0 m (kind_of c0) (suc m)).next in let m2 = (into env o p m' K (suc m')).next in
          corresponds_seq (to_spill c0 m f.1 n.room (into_corresponds c0 m (kind_of c0) (suc m) f.0 (near_more (omega arith) n) n.room (omega arith))) (λ v s1 t1 h1.
          corresponds_quiet_left quiet_loc (corresponds_seq_tail {Mid = λ y s' t'. Into kind o w.locals m' (suc m') (into env o q m' K m2).next t1 y s' t'}
          (corresponds_quiet_right (quiet_temp m v (kind_of c0) h1.value) (corresponds_quiet_right quiet_loc (corresponds_picks (is_true v)
          (λ _. corresponds_gives_left (corresponds_less (into_corresponds p m' K (suc m') f.2 (near_more (omega arith) h1.chain.near) h1.chain.near.room (omega arith))
          (λ y s' u t' g. (g.0, recast (λ known. joint_left (kind_at p) (kind_at q) (subst Valued f.4 known)) (into_more (grows q m' K m2) g.1)))))
          (λ _. corresponds_gives_left (corresponds_less (into_corresponds q m' K m2 f.3 (near_more (le_trans (omega arith) (grows p m' K (suc m'))) h1.chain.near) h1.chain.near.room (grows p m' K (suc m')))
          (λ y s' u t' g. (g.0, recast (λ known. joint_right (kind_at p) (kind_at q) (subst Valued f.4 known)) (wider (grows p m' K (suc m')) g.1))))))))
          (λ y s2 t2 h2. (through, set_local x (t2.frame m') t2, quiet_then (quiet_temp m' (t2.frame m') K refl) (quiet_stored K x (t2.frame m') k), (refl, finish_as y (t2.frame m') h2.value a b (chain_then h1.chain (into_chain (le_trans (grows p m' K (suc m')) (grows q m' K m2)) h2))))))))
      into_corresponds (assign line None (lvalue at meant index checked) e kind) x k m {s} {t} f n a b =
          by_call (index_has_call index || has_call e) _ _ (λ m' v s' u t'. (u ≡ through) × Into kind o w.locals x m m' t v s' t') (plainly (assign line None (lvalue at meant index checked) e kind) x k m f n a b) (λ c.
          corresponds_seq (index_into_corresponds meant index checked m f.1 n) (λ i s1 t1 h1. let m' = (index_into env o index m (suc m)).next in
          corresponds_seq (to_spill e m' f.3 h1.chain.near.room (into_corresponds e m' (kind_of e) (suc m') f.2 (near_more (omega arith) h1.chain.near) h1.chain.near.room (omega arith))) (λ v s2 t2 h2.
          store_tail (kind_or kind) k kind a b (chain_then h1.chain h2.chain) (corresponds_quiet_right (quiet_index m i index h1.ready (at_kept index h1 h2.chain)) (corresponds_quiet_right (quiet_temp m' v (kind_of e) h2.value)
          (corresponds_passed_then (temp_checked o w at meant index checked m i untested f.1 h1.ready) (λ _ below. write_corresponds w line meant i v f.0 below h2.chain.near)))))))
      into_corresponds (assign line (Some op) (lvalue at meant index checked) e kind) x k m {s} {t} f n a b =
          by_call (index_has_call index || has_call e) _ _ (λ m' v s' u t'. (u ≡ through) × Into kind o w.locals x m m' t v s' t') (plainly (assign line (Some op) (lvalue at meant index checked) e kind) x k m f n a b) (λ c.
          corresponds_same_left (then_assoc _ _ _) (corresponds_seq (index_into_corresponds meant index checked m f.1 n) (λ i s1 t1 h1.
          corresponds_same_left (gives_then _ _ _) (update_corresponds line at op meant index checked e kind x k m _ i f.0 f.1 f.4 a b h1
          (λ n2 s2 t2 near. to_spill e n2 f.3 near.room (into_corresponds e n2 (kind_of e) (suc n2) f.2 (near_more (omega arith) near) near.room (omega arith)))))))
      into_corresponds (step line (lvalue at meant index checked) up before kind) x k m {s} {t} f n a b =
          by_call (index_has_call index) _ _ (λ m' v s' u t'. (u ≡ through) × Into kind o w.locals x m m' t v s' t') (plainly (step line (lvalue at meant index checked) up before kind) x k m f n a b) (λ c.
          corresponds_same_left (then_assoc _ _ _) (corresponds_seq (index_into_corresponds meant index checked m f.1 n) (λ i s1 t1 h1.
          store_tail (kind_or kind) k kind a b h1.chain (placed_then at meant index checked m _ i f.1 h1 (λ below.
          corresponds_same_then (read_corresponds w line meant i f.0 below h1.chain.near) (λ old s2 t2 h2.
          rw (kind_of_object-moved o meant)
          (corresponds_gives_left (corresponds_gives_right (corresponds_less (write_corresponds w line meant i (stepped up (kind_of_object meant) old) f.0 below h2.near)
          (λ v s' u t' h. (ap (λ (y : ℕ). if before then y else old) h.0, steps_trans h2 h.1)))))))))))
      into_corresponds (call line (Routine g) args kind) x k m {s} {t} f n a b =
          let okay = fine g f.0 in
          let few : number_of args ≤ env.size g = le_trans (subst (λ (z : ℕ). number_of args ≤ z) f.1 (le_refl (number_of args))) okay.1 in
          let m' = (arguments_into env o args (env.params g) m (suc (m + env.size g))).next in
          let grown = arguments_grow env o grows args (env.params g) m (suc (m + env.size g)) in
          corresponds_seq (arguments_correspond args (env.params g) m (suc (m + env.size g)) f.2 (near_more (omega arith) n) n.room (omega (arith, few))) (λ vs s1 t1 h1.
          corresponds_quiet_left (quiet_locs line vs) (corresponds_seq_tail {Mid = λ v s' t'. Called o w.locals m (env.inline g m m').next (m + env.size g) t v s' t'}
          (corresponds_in_frame (corresponds_less (C.correspond g m m' (entered (passed (kinds_of args) (calls.params g) vs) s1) t1 okay.0
          (subst (λ ys. Near m (env.size g) m' (entered ys s1) t1) (sym (passed_same (kinds_of args) (calls.params g) vs)) (callee_near n few grown h1)))
          (λ v s' u t' h2. (h2.0, called n grown (C.grows g m m') h1 h2.1))))
          (λ v s2 t2 h2. (through, set_local x v t2, quiet_then (quiet_temp (m + env.size g) v (env.results g) h2.value) (quiet_stored (env.results g) x v k), (refl, finish v a b h2.chain)))))
      into_corresponds (call line (Known name) args kind) x k m {s} {t} f n a b =
          by_call (all_have_call args) _ _ (λ m' v s' u t'. (u ≡ through) × Into kind o w.locals x m m' t v s' t') (plainly (call line (Known name) args kind) x k m f n a b) (λ c.
          known_corresponds line name args kind x k m c f.0 n a b)
      into_corresponds (call line (Local first len j) args kind) x k m f n a b = absurd f
      into_corresponds (call line (Cell first len j) args kind) x k m f n a b = absurd f
      into_corresponds (call line (Mutex first len) args kind) x k m f n a b = absurd f
      into_corresponds (call line (Cond first len) args kind) x k m f n a b = absurd f
      into_corresponds (call line (Handle first len) args kind) x k m f n a b = absurd f

      index_into_corresponds : (meant : Object) (index : ScopedIndex) (checked : Bool) (m : ℕ) {s t : Locals} → IsIndex w meant checked index → Near o w.locals m s t →
          Corresponds Back (index_trace calls index) s (bounded_trace (index_into env o index m (suc m)).tree) t (λ i s' u t'. (u ≡ through) × IndexAt o w.locals m (index_into env o index m (suc m)).next index t i s' t')
      index_into_corresponds meant whole checked m f n = corresponds_value (
        refl,
        record {
          chain = record { near = near_more (omega arith) n; same = λ k h g. refl; grows = omega arith };
          at = tt;
          ready = refl;
          room = omega arith;
          above = n.room;
        },
      )
      index_into_corresponds meant (element e) checked m f n =
          corresponds_less (to_spill e m f.1 n.room (into_corresponds e m (kind_of e) (suc m) f.0 (near_more (omega arith) n) n.room (omega arith)))
          (λ v s' u t' h. (h.0, record { chain = h.1.chain; at = h.1.value; ready = tt; room = h.1.room; above = h.1.above }))

      arguments_correspond : (es : ScopedExpressions) (ks : List IntType) (x m : ℕ) {s t : Locals} → AreValues w es → Near o w.locals m s t → o + w.locals < x → x + number_of es ≤ m →
          Corresponds Back (arguments_trace calls es) s (bounded_trace (arguments_into env o es ks x m).tree) t
          (λ vs s' u t'. (u ≡ through) × Passed o w.locals x m (arguments_into env o es ks x m).next t (number_of es) vs s' t')
      arguments_correspond none ks x m {s} {t} f n a b = corresponds_value (refl, record { near = n; all = refl; values = λ i h. omega arith; same = λ k h g j. refl })
      arguments_correspond (and e es) ks x m {s} {t} f n a b =
          let m' = (into env o e x (head_kind ks) m).next in
          corresponds_seq (into_corresponds e x (head_kind ks) m f.0 n a (omega arith)) (λ v s1 t1 h1.
          corresponds_gives_left (corresponds_less (arguments_correspond es (tail_kinds ks) (suc x) m' f.2 h1.near (omega arith) (le_trans (omega arith) (grows e x (head_kind ks) m)))
          (λ vs s2 u t2 h2. (h2.0, first_and_rest (valued_of e f.1) a (omega arith) (grows e x (head_kind ks) m) h1 h2.1))))

      -- the index of an object that is handed on
      thing_index : (thing : ScopedExpression) (m : ℕ) {s t : Locals} → IsIndexed w thing → Near o w.locals m s t →
          Corresponds Back (index_trace calls (index_in thing)) s (bounded_trace (index_into env o (index_in thing) m (suc m)).tree) t (λ i s' u t'. (u ≡ through) × IndexAt o w.locals m (index_into env o (index_in thing) m (suc m)).next (index_in thing) t i s' t')
      thing_index (address line (lvalue at meant index checked) kind) m f n = index_into_corresponds meant index checked m f n
      thing_index (object (lvalue at meant index checked) kind) m f n = index_into_corresponds meant index checked m f n
      thing_index (constant line v form kind) m f n = absurd f
      thing_index (null line kind) m f n = absurd f
      thing_index (text line kind) m f n = absurd f
      thing_index (paren line e kind) m f n = absurd f
      thing_index (unary line op e kind) m f n = absurd f
      thing_index (cast line to e kind) m f n = absurd f
      thing_index (binary line op p q kind) m f n = absurd f
      thing_index (choose line c p q kind) m f n = absurd f
      thing_index (assign line op to e kind) m f n = absurd f
      thing_index (step line of up before kind) m f n = absurd f
      thing_index (call line callee args kind) m f n = absurd f

      printed_correspond : (es : ScopedExpressions) (m : ℕ) {s t : Locals} → AreValues w es → Near o w.locals m s t →
          Corresponds Back (values_trace calls es) s (bounded_trace (printed_into env o es m).tree) t (λ vs s' u t'. (u ≡ through) × Chain o w.locals m (printed_into env o es m).next t s' t')
      printed_correspond none m f n = corresponds_value (refl, chain_start n)
      printed_correspond (and e es) m {s} {t} f n =
          rw (scoped_no_object w e f.0) (corresponds_seq {Mid = λ v s' t'. Chain o w.locals m (discarded env o e m).next t s' t'}
          (by_call (has_call e) _ _ (λ m' v s' u t'. (u ≡ through) × Chain o w.locals m m' t s' t') (λ c. dropped e m f.0 n c)
          (λ c. corresponds_less (into_corresponds e m (kind_of e) (suc m) f.0 (near_more (omega arith) n) n.room (omega arith)) (λ v s' u t' g. (g.0, into_chain (grows e m (kind_of e) (suc m)) g.1))))
          (λ v s1 t1 c. corresponds_gives_left (corresponds_less (printed_correspond es (discarded env o e m).next f.2 c.near) (λ vs s' u t' g. (g.0, chain_then c g.1)))))

      known_corresponds : (line : ℕ) (name : KnownName) (args : ScopedExpressions) (kind : Option IntType) (x : ℕ) (k : IntType) (m : ℕ) {s t : Locals} → all_have_call args ≡ true → AreArguments w (takes_more name) (forms_of name) args → Near o w.locals m s t → o + w.locals < x → x < m →
          Corresponds Back (objects_trace calls args and_then λ os. values_trace calls args and_then λ vs. known_trace line name os vs) s (bounded_trace (known_into env o (shape_of name) line name args kind x k m).tree) t (λ v s' u t'. (u ≡ through) × Into kind o w.locals x m (known_into env o (shape_of name) line name args kind x k m).next t v s' t')
      known_corresponds line known.Assert none kind x k m c f n a b = absurd f
      known_corresponds line known.Assert (and e none) kind x k m c f n a b =
          value_known line known.Assert e kind x k m f.0.0 a b (to_spill e m f.0.1 n.room (into_corresponds e m (kind_of e) (suc m) f.0.0 (near_more (omega arith) n) n.room (omega arith)))
      known_corresponds line known.Assert (and e (and e2 rest)) kind x k m c f n a b = absurd (false≢true f.1.0)
      known_corresponds line known.Assume none kind x k m c f n a b = absurd f
      known_corresponds line known.Assume (and e none) kind x k m c f n a b =
          value_known line known.Assume e kind x k m f.0.0 a b (to_spill e m f.0.1 n.room (into_corresponds e m (kind_of e) (suc m) f.0.0 (near_more (omega arith) n) n.room (omega arith)))
      known_corresponds line known.Assume (and e (and e2 rest)) kind x k m c f n a b = absurd (false≢true f.1.0)
      known_corresponds line known.Exit none kind x k m c f n a b = absurd f
      known_corresponds line known.Exit (and e none) kind x k m c f n a b =
          end_known line e kind x k m f.0.0 a b (to_spill e m f.0.1 n.room (into_corresponds e m (kind_of e) (suc m) f.0.0 (near_more (omega arith) n) n.room (omega arith)))
      known_corresponds line known.Exit (and e (and e2 rest)) kind x k m c f n a b = absurd (false≢true f.1.0)
      known_corresponds line known.Printf none kind x k m c f n a b = absurd f
      known_corresponds line known.Printf (and e values) kind x k m c f n a b = printed_known line e values kind x k m f.0 (more_values w values f.1) a b (printed_correspond values m (more_values w values f.1) n)
      known_corresponds line known.Join none kind x k m c f n a b = absurd f
      known_corresponds line known.Join (and thing rest) kind x k m c f n a b = one_thing line known.Join made_thread (no_attribute ∷ []) thing rest kind x k m refl f.0 f.1 a b (λ i. thing_index thing m i n)
      known_corresponds line known.MutexInit none kind x k m c f n a b = absurd f
      known_corresponds line known.MutexInit (and thing rest) kind x k m c f n a b = one_thing line known.MutexInit mutex (no_attribute ∷ []) thing rest kind x k m refl f.0 f.1 a b (λ i. thing_index thing m i n)
      known_corresponds line known.MutexDestroy none kind x k m c f n a b = absurd f
      known_corresponds line known.MutexDestroy (and thing rest) kind x k m c f n a b = one_thing line known.MutexDestroy mutex [] thing rest kind x k m refl f.0 f.1 a b (λ i. thing_index thing m i n)
      known_corresponds line known.MutexLock none kind x k m c f n a b = absurd f
      known_corresponds line known.MutexLock (and thing rest) kind x k m c f n a b = one_thing line known.MutexLock mutex [] thing rest kind x k m refl f.0 f.1 a b (λ i. thing_index thing m i n)
      known_corresponds line known.MutexUnlock none kind x k m c f n a b = absurd f
      known_corresponds line known.MutexUnlock (and thing rest) kind x k m c f n a b = one_thing line known.MutexUnlock mutex [] thing rest kind x k m refl f.0 f.1 a b (λ i. thing_index thing m i n)
      known_corresponds line known.CondInit none kind x k m c f n a b = absurd f
      known_corresponds line known.CondInit (and thing rest) kind x k m c f n a b = one_thing line known.CondInit cond (no_attribute ∷ []) thing rest kind x k m refl f.0 f.1 a b (λ i. thing_index thing m i n)
      known_corresponds line known.CondDestroy none kind x k m c f n a b = absurd f
      known_corresponds line known.CondDestroy (and thing rest) kind x k m c f n a b = one_thing line known.CondDestroy cond [] thing rest kind x k m refl f.0 f.1 a b (λ i. thing_index thing m i n)
      known_corresponds line known.CondSignal none kind x k m c f n a b = absurd f
      known_corresponds line known.CondSignal (and thing rest) kind x k m c f n a b = one_thing line known.CondSignal cond [] thing rest kind x k m refl f.0 f.1 a b (λ i. thing_index thing m i n)
      known_corresponds line known.CondBroadcast none kind x k m c f n a b = absurd f
      known_corresponds line known.CondBroadcast (and thing rest) kind x k m c f n a b = one_thing line known.CondBroadcast cond [] thing rest kind x k m refl f.0 f.1 a b (λ i. thing_index thing m i n)
      known_corresponds line known.CondWait none kind x k m c f n a b = absurd f
      known_corresponds line known.CondWait (and one none) kind x k m c f n a b = absurd f.1
      known_corresponds line known.CondWait (and one (and two none)) kind x k m c f n a b =
          two_things line one two kind x k m f.0 f.1.0 a b (λ i. thing_index one m i n) (λ i n2 s2 t2 near. thing_index two n2 i near)
      known_corresponds line known.CondWait (and one (and two (and e rest))) kind x k m c f n a b = absurd (false≢true f.1.1.0)
      known_corresponds line known.Create none kind x k m c f n a b = absurd f
      known_corresponds line known.Create (and thread none) kind x k m c f n a b = absurd f.1
      known_corresponds line known.Create (and thread (and attribute none)) kind x k m c f n a b = absurd f.1.1
      known_corresponds line known.Create (and thread (and attribute (and begins none))) kind x k m c f n a b = absurd f.1.1.1
      known_corresponds line known.Create (and thread (and attribute (and begins (and e none)))) kind x k m c f n a b =
          created_thing line thread attribute begins e kind x k m f.0 f.1.0 f.1.1.0 f.1.1.1.0 a b (λ i. thing_index thread m i n)
          (λ n2 s2 t2 near. to_spill e n2 f.1.1.1.0.1 near.room (into_corresponds e n2 (kind_of e) (suc n2) f.1.1.1.0.0 (near_more (omega arith) near) near.room (omega arith)))
      known_corresponds line known.Create (and thread (and attribute (and begins (and e (and e2 rest))))) kind x k m c f n a b = absurd (false≢true f.1.1.1.1.0)
      known_corresponds line known.NondetInt none kind x k m c f n a b = absurd (false≢true c)
      known_corresponds line known.NondetInt (and e rest) kind x k m c f n a b = absurd (false≢true f.0)
      known_corresponds line known.NondetUint none kind x k m c f n a b = absurd (false≢true c)
      known_corresponds line known.NondetUint (and e rest) kind x k m c f n a b = absurd (false≢true f.0)
      known_corresponds line known.Error none kind x k m c f n a b = absurd (false≢true c)
      known_corresponds line known.Error (and e rest) kind x k m c f n a b = absurd (false≢true f.0)
      known_corresponds line known.ReachError none kind x k m c f n a b = absurd (false≢true c)
      known_corresponds line known.ReachError (and e rest) kind x k m c f n a b = absurd (false≢true f.0)
      known_corresponds line known.Abort none kind x k m c f n a b = absurd (false≢true c)
      known_corresponds line known.Abort (and e rest) kind x k m c f n a b = absurd (false≢true f.0)
      known_corresponds line known.AtomicBegin none kind x k m c f n a b = absurd (false≢true c)
      known_corresponds line known.AtomicBegin (and e rest) kind x k m c f n a b = absurd (false≢true f.0)
      known_corresponds line known.AtomicEnd none kind x k m c f n a b = absurd (false≢true c)
      known_corresponds line known.AtomicEnd (and e rest) kind x k m c f n a b = absurd (false≢true f.0)
