-- Pieces of inlined code: temporaries, indexes in them, what is stored.
use Rattle.std.proofs.Common.{◌≡◌, ℕ, zero, suc, ◌+◌, ◌<◌, ◌≤◌, ◌==◌, inr, Bool, true, false, not, ◌&&◌, nat_lt, List, [], ◌∷◌, Option, Some, None, refl, sym, ◌∙◌, subst, arith, le_refl, le_trans}
use Rattle.std.proofs.lemmas.Bool.{false≢true, ltb-true, lt-ltb}
use Rattle.std.specs.Prelude.{⊤}
use Rattle.lz_base.specs.Words.{is_true, truth}
use Rattle.lz_base.specs.declared.word.BreakKind.TheVariants as kinds
use Rattle.lz_base.specs.declared.word.IntType.{IntType}
use Rattle.lz_base.specs.declared.operator.Binary.{Binary}
use Rattle.lz_tree.specs.declared.scoped.Object.{Object}
use Rattle.lz_tree.specs.declared.scoped.Object.TheVariants.{Routine}
use Rattle.lz_tree.specs.ScopedTrees.{ScopedExpression, constant, null, object, address, binary, lvalue, ScopedIndex, whole, element, ScopedExpressions, none, and}
use Rattle.lz_model.specs.Behaviours.{Behaviour, ends_with, ◌and_then◌, ◌gives◌, picks}
use Rattle.lz_model.specs.CodeTraces.{values_trace, objects_trace, handed_trace, is_object_argument, Locals, Calls, no_calls, set_local, write_at, len_of, kind_of_object, kind_of, needs, checks_index, expression_trace, index_trace, right_operand, operated, assigned, checks_divisor, value_kind, way_of}
use Rattle.lz_agree.proofs.CorrespondsLemmas.{corresponds_value, corresponds_less, corresponds_then, corresponds_quiet_right, corresponds_quiet_tail, corresponds_gives_right}
use Rattle.lz_agree.proofs.QuietLemmas.{quiet_value, quiet_then}
use Rattle.lz_agree.proofs.SameLemmas.{then_assoc, corresponds_same_right}
use Rattle.lz_agree.specs.Correspondence.{Corresponds, Quiet}
use Rattle.lz_bound.specs.BoundedTraces.{Leaving, through, passes, stores, bounded_trace}
use Rattle.lz_tree.specs.WellFormed.{is_logical}
use Rattle.lz_tree.specs.WellScoped.{Form, some_value, no_attribute, format, start, new_thread, made_thread, mutex, cond, IsArgument, IsIndexed, IsStart, IsNoAttribute, kind_at, HasValue, joint_kind, Setting, IsInteger, IsScoped, IsIndex, AreValues, AreArguments}
use Rattle.lz_unwind.proofs.CallsLemmas.{finish_none, quiet_gives, quiet_temp, quiet_stored, near_more, finish, corresponds_seq}
use Rattle.lz_unwind.proofs.MovedLemmas.{scoped_no_object, address_is_handed, thread_is_handed, Steps, Passes, checks_correspond, fits_of, IsAtIndex, index_checked, write_corresponds, divisor_corresponds, after_plain, len_of-moved}
use Rattle.lz_unwind.specs.Moved.{moved, shift, has_call, all_have_call}
use Rattle.lz_unwind.specs.Pieces.{target_of, Made, temp, unless_call, at_temp, inside_of, tested, truth_of}
use Rattle.lz_unwind.specs.Relation.{Valued, Near, Into, Chain}

-- the value is in the temporary m
pub record Spilled (o l m m' : ℕ) (t : Locals) (v : ℕ) (s' t' : Locals) : Type 0 where
  pub chain : Chain o l m m' t s' t'
  pub value : t'.frame m ≡ v
  pub room : m < m'
  pub above : o + l < m

pub chain_start : {o l m : ℕ} {s t : Locals} → Near o l m s t → Chain o l m m t s t
chain_start {m = m} n = record { near = n; same = λ k h g. refl; grows = le_refl m }

pub chain_then : {o l m m' m'' : ℕ} {t s1 t1 s2 t2 : Locals} → Chain o l m m' t s1 t1 → Chain o l m' m'' t1 s2 t2 → Chain o l m m'' t s2 t2
chain_then a b = record { near = b.near; same = λ k h g. b.same k (omega (arith, a.grows)) g ∙ a.same k h g; grows = le_trans a.grows b.grows }

pub chain_steps : {o l m m' : ℕ} {t s1 t1 s2 t2 : Locals} → Chain o l m m' t s1 t1 → Steps o l m' t1 s2 t2 → Chain o l m m' t s2 t2
chain_steps a b = record { near = b.near; same = λ k h g. b.still.same k g ∙ a.same k h g; grows = a.grows }

-- what was as before below a temporary and in the frame
pub into_chain : {of : Option IntType} {o l m m' : ℕ} {t : Locals} {v : ℕ} {s' t' : Locals} → suc m ≤ m' → Into of o l m (suc m) m' t v s' t' → Chain o l m m' t s' t'
into_chain {m = m} g h = record { near = h.near; same = λ k b c. h.same k (omega arith) c (omega arith); grows = omega arith }

-- an expression that has a value
pub valued_of : (e : ScopedExpression) → HasValue e → Valued (kind_at e)
valued_of e h = subst Valued (sym h) tt

-- the value may be known of less
pub recast : {of to : Option IntType} {o l x m m' : ℕ} {t : Locals} {v : ℕ} {s' t' : Locals} → (Valued to → Valued of) → Into of o l x m m' t v s' t' → Into to o l x m m' t v s' t'
recast g h = record { near = h.near; same = h.same; value = λ known. h.value (g known) }

-- the value of `?:` is one where both of its values are
pub joint_left : (a b : Option IntType) → Valued (joint_kind a b) → Valued a
joint_left None b h = h
joint_left (Some k) None h = tt
joint_left (Some k) (Some j) h = tt

pub joint_right : (a b : Option IntType) → Valued (joint_kind a b) → Valued b
joint_right None None h = h
joint_right None (Some j) h = tt
joint_right (Some k) None h = h
joint_right (Some k) (Some j) h = tt

pub spilled : {of : Option IntType} {o l m m' : ℕ} {t : Locals} {v : ℕ} {s' t' : Locals} → Valued of → o + l < m → suc m ≤ m' → Into of o l m (suc m) m' t v s' t' → Spilled o l m m' t v s' t'
spilled {m = m} known r g h = record {
  chain = record { near = h.near; same = λ k b c. h.same k (omega arith) c (omega arith); grows = omega arith };
  value = h.value known;
  room = g;
  above = r;
}

pub stays_in : {o l m m' m'' : ℕ} {t s1 t1 s2 t2 : Locals} {v : ℕ} → Spilled o l m m' t v s1 t1 → Chain o l m' m'' t1 s2 t2 → t2.frame m ≡ v
stays_in {m = m} h c = c.same m h.room (inr h.above) ∙ h.value

module _ {Back : Type 0} {S A : Type 0} where
  pub by_call : (b : Bool) (plain spread : Made) {P : Behaviour S A} {s : S} {t : Locals} (Post : ℕ → A → S → Leaving → Locals → Type 0) →
      (b ≡ false → Corresponds Back P s (bounded_trace plain.tree) t (Post plain.next)) →
      (b ≡ true → Corresponds Back P s (bounded_trace spread.tree) t (Post spread.next)) →
      Corresponds Back P s (bounded_trace (unless_call b plain spread).tree) t (Post (unless_call b plain spread).next)
  by_call true _ _ Post x y = y refl
  by_call false _ _ Post x y = x refl

module _ {o l x m m' : ℕ} {t s1 t1 : Locals} where
  -- a quiet value is stored, if it is one
  pub store_quiet : (from k : IntType) (of : Option IntType) {E : Behaviour Locals ℕ} {v : ℕ} → o + l < x → x < m → Chain o l m m' t s1 t1 → Quiet E t1 v t1 →
      (u : Leaving) × (t' : Locals) × Quiet (E and_then λ v. stores from (target_of of x k) v) t1 u t' × ((u ≡ through) × Into of o l x m m' t v s1 t')
  store_quiet from k (Some j) {v = v} a b c q = (through, set_local x v t1, quiet_then q (quiet_stored from x v k), (refl, finish v a b c))
  store_quiet from k None {v = v} a b c q = (through, t1, quiet_then q quiet_value, (refl, finish_none v c))

module _ {Back : Type 0} {o l x m m' : ℕ} {t s1 t1 : Locals} where
  -- the value of the last piece is stored, if there is one
  pub store_tail : (from k : IntType) (of : Option IntType) {P E : Behaviour Locals ℕ} → o + l < x → x < m → Chain o l m m' t s1 t1 →
      Corresponds Back P s1 E t1 (λ v s' u t'. (u ≡ v) × Steps o l m' t1 s' t') →
      Corresponds Back P s1 (E and_then λ v. stores from (target_of of x k) v) t1 (λ v s' u t'. (u ≡ through) × Into of o l x m m' t v s' t')
  store_tail from k (Some j) a b c h = corresponds_quiet_tail h (λ v s' u t' g. (
    through,
    set_local x u t',
    quiet_stored from x u k,
    (refl, subst (λ (z : ℕ). Into (Some j) o l x m m' t v s' (set_local x z t')) (sym g.0) (finish v a b (chain_steps c g.1))),
  ))
  store_tail from k None a b c h = corresponds_quiet_tail h (λ v s' u t' g. (through, t', quiet_value, (refl, finish_none v (chain_steps c g.1))))

pub chain_more : {o l m m' m'' : ℕ} {t s1 t1 : Locals} → m' ≤ m'' → Chain o l m m' t s1 t1 → Chain o l m m'' t s1 t1
chain_more g c = record { near = near_more g c.near; same = c.same; grows = le_trans c.grows g }

pub into_more : {of : Option IntType} {o l x m m' m'' : ℕ} {t s1 t1 : Locals} {v : ℕ} → m' ≤ m'' → Into of o l x m m' t v s1 t1 → Into of o l x m m'' t v s1 t1
into_more g h = record { near = near_more g h.near; same = h.same; value = h.value }

-- what held below the greater number holds below the less
pub wider : {of : Option IntType} {o l x m m' m'' : ℕ} {t s1 t1 : Locals} {v : ℕ} → m ≤ m' → Into of o l x m' m'' t v s1 t1 → Into of o l x m m'' t v s1 t1
wider g h = record { near = h.near; same = λ k p q r. h.same k (omega (arith, g)) q r; value = h.value }

pub double_not : (b : Bool) → truth (truth b == 0) ≡ truth (not b)
double_not true = refl
double_not false = refl

pub quiet_truth : (x v : ℕ) (kind : IntType) {t : Locals} → t.frame x ≡ v → Quiet (expression_trace no_calls (truth_of x kind)) t (truth (is_true v)) t
quiet_truth x v kind {t} e = subst (λ (z : ℕ). Quiet (expression_trace no_calls (truth_of x kind)) t z t) (double_not (v == 0)) (quiet_gives (quiet_gives (quiet_temp x v kind e)))

-- ---- an index in a temporary

abbrev pub IsAt : ScopedIndex → ℕ → ℕ → Locals → Type 0
IsAt whole m i t = ⊤
IsAt (element e) m i t = t.frame m ≡ i

pub record IndexAt (o l m m' : ℕ) (index : ScopedIndex) (t : Locals) (i : ℕ) (s' t' : Locals) : Type 0 where
  pub chain : Chain o l m m' t s' t'
  pub at : IsAt index m i t'
  pub ready : IsAtIndex index i
  pub room : m < m'
  pub above : o + l < m

pub at_kept : {o l m m' m'' : ℕ} (index : ScopedIndex) {t s1 t1 s2 t2 : Locals} {i : ℕ} → IndexAt o l m m' index t i s1 t1 → Chain o l m' m'' t1 s2 t2 → IsAt index m i t2
at_kept whole h c = tt
at_kept {m = m} (element e) h c = c.same m h.room (inr h.above) ∙ h.at

pub quiet_index : (m i : ℕ) (index : ScopedIndex) {t : Locals} → IsAtIndex index i → IsAt index m i t → Quiet (index_trace no_calls (at_temp index m)) t i t
quiet_index m i whole {t} r h = subst (λ (z : ℕ). Quiet (ends_with zero) t z t) (sym r) quiet_value
quiet_index m i (element e) r h = quiet_temp m i (kind_of e) h

-- the check at a target, in the source and in the tree
pub temp_checked : {Back : Type 0} (o : ℕ) (w : Setting) (line : ℕ) (meant : Object) (index : ScopedIndex) (checked : Bool) (m i : ℕ) {s t : Locals} → w.tested ≡ false → IsIndex w meant checked index → IsAtIndex index i →
    Corresponds Back (checks_index line meant index checked i) s (checks_index line (moved o meant) (at_temp index m) false i) t (λ a s' b t'. (b ≡ a) × Passes (i < len_of meant) s t s' t')
temp_checked o w line meant whole checked m i u f r = index_checked o w line meant whole checked i f r
temp_checked o w line meant (element e) false m i u f r = index_checked o w line meant (element e) false i f r
temp_checked o w line meant (element e) true m i u f r = absurd (false≢true (sym u ∙ f.2))

-- the check before a target
pub inside_corresponds : {Back : Type 0} (w : Setting) (line : ℕ) (meant : Object) (index : ScopedIndex) (checked : Bool) (m i : ℕ) {s t : Locals} → w.tested ≡ false → IsIndex w meant checked index → IsAtIndex index i → IsAt index m i t →
    Corresponds Back (checks_index line meant index checked i) s (bounded_trace (inside_of line meant index m)) t (λ a s' b t'. (b ≡ through) × Passes (i < len_of meant) s t s' t')
inside_corresponds w line meant whole checked m i u f r h = let one = f.0 in corresponds_value (refl, record { left = refl; right = refl; holds_ = omega (arith, r, one) })
inside_corresponds w line meant (element e) true m i u f r h = absurd (false≢true (sym u ∙ f.2))
inside_corresponds w line meant (element e) false m i u f r h =
    corresponds_quiet_right (quiet_temp m i (kind_of e) h) (corresponds_gives_right (corresponds_less (checks_correspond line (truth (nat_lt i (len_of meant))) kinds.Bounds)
    (λ a s' b t' g. (refl, record { left = g.1.left; right = g.1.right; holds_ = ltb-true i (len_of meant) (fits_of (nat_lt i (len_of meant)) g.1.holds_) }))))

-- an index that was tested is in range
pub quiet_tested : (o line : ℕ) (meant : Object) (index : ScopedIndex) (m i : ℕ) {t : Locals} → i < len_of meant → Quiet (checks_index line (moved o meant) (at_temp index m) (tested index) i) t zero t
quiet_tested o line meant whole m i b = quiet_value
quiet_tested o line meant (element e) m i {t} b =
    let fits : nat_lt i (len_of (moved o meant)) ≡ true = subst (λ (n : ℕ). nat_lt i n ≡ true) (sym (len_of-moved o meant)) (lt-ltb i (len_of meant) b) in
    subst (λ (c : Bool). Quiet (needs c) t zero t) (sym fits) quiet_value

module _ {Back : Type 0} {A C : Type 0} where
  pub corresponds_passed_seq : {P : Behaviour Locals A} {s : Locals} {Q R : Behaviour Locals Leaving} {t : Locals} {H : Type 0} {next : A → Behaviour Locals C} {Post : C → Locals → Leaving → Locals → Type 0} →
      Corresponds Back P s Q t (λ a s' u t'. (u ≡ through) × Passes H s t s' t') → ((a : A) → H → Corresponds Back (next a) s R t Post) → Corresponds Back (P and_then next) s (Q and_then λ u. passes u R) t Post
  corresponds_passed_seq {s = s} {R = R} {t = t} {next = next} {Post = Post} first rest =
      corresponds_seq first (λ a s' t' p. subst (λ z. Corresponds Back (next a) z R t' Post) (sym p.left) (subst (λ z. Corresponds Back (next a) s R z Post) (sym p.right) (rest a p.holds_)))

-- after the value: the check of a divisor, the write
pub written : {Back : Type 0} {o n : ℕ} (w : Setting) (line at : ℕ) (op : Binary) (meant : Object) (index : ScopedIndex) (e : ScopedExpression) (kind : Option IntType) (m m' i old v : ℕ) {s t : Locals} →
    IsInteger w meant → is_logical op ≡ false → i < len_of meant → t.frame m' ≡ old → t.frame (suc m') ≡ v → Near o w.locals n s t →
    Corresponds Back (checks_divisor line op (right_operand op (kind_of_object meant) (kind_of e) v) and_then λ _. write_at line meant i (assigned op (kind_of_object meant) (kind_of e) old v)) s
    (expression_trace no_calls (binary line op (temp m' (kind_of_object meant)) (temp (suc m') (kind_of e)) (Some (value_kind (way_of op) (kind_of_object meant) (kind_of e)))) and_then λ x.
    checks_index at (moved o meant) (at_temp index m) (tested index) i and_then λ _. write_at line (moved o meant) i x) t
    (λ v s' u t'. (u ≡ v) × Steps o w.locals n t s' t')
written {Back} {o} {n} w line at op meant index e kind m m' i old v {s} {t} f l below h k near =
    let K = kind_of_object meant in let R = kind_of e in
    corresponds_same_right (then_assoc _ _ _) (corresponds_quiet_right (quiet_temp m' old K h)
    (rw (after_plain line op K R (expression_trace no_calls (temp (suc m') R)) old l)
    (corresponds_same_right (then_assoc _ _ _) (corresponds_quiet_right (quiet_temp (suc m') v R k)
    (corresponds_then {Mid = λ a s' x t'. (x ≡ operated op K R old v) × Passes ⊤ s t s' t'}
    (corresponds_gives_right (corresponds_less (divisor_corresponds line op (right_operand op K R v)) (λ a s' b t' p. (refl, p.1))))
    (λ a s' x t' p. after x s' t' p.0 p.1.left p.1.right))))))
  where
    after : (x : ℕ) (s' t' : Locals) → x ≡ operated op (kind_of_object meant) (kind_of e) old v → s' ≡ s → t' ≡ t →
        Corresponds Back (write_at line meant i (assigned op (kind_of_object meant) (kind_of e) old v)) s'
        (checks_index at (moved o meant) (at_temp index m) (tested index) i and_then λ _. write_at line (moved o meant) i x) t'
        (λ v s' u t'. (u ≡ v) × Steps o w.locals n t s' t')
    after x s' t' e1 e2 e3 =
        subst (λ (y : ℕ). Corresponds Back (write_at line meant i (assigned op (kind_of_object meant) (kind_of e) old v)) s' (checks_index at (moved o meant) (at_temp index m) (tested index) i and_then λ _. write_at line (moved o meant) i y) t' (λ v s' u t'. (u ≡ v) × Steps o w.locals n t s' t')) (sym e1)
        (subst (λ (y : Locals). Corresponds Back (write_at line meant i (assigned op (kind_of_object meant) (kind_of e) old v)) y (checks_index at (moved o meant) (at_temp index m) (tested index) i and_then λ _. write_at line (moved o meant) i (operated op (kind_of_object meant) (kind_of e) old v)) t' (λ v s' u t'. (u ≡ v) × Steps o w.locals n t s' t')) (sym e2)
        (subst (λ (y : Locals). Corresponds Back (write_at line meant i (assigned op (kind_of_object meant) (kind_of e) old v)) s (checks_index at (moved o meant) (at_temp index m) (tested index) i and_then λ _. write_at line (moved o meant) i (operated op (kind_of_object meant) (kind_of e) old v)) y (λ v s' u t'. (u ≡ v) × Steps o w.locals n t s' t')) (sym e3)
        (corresponds_quiet_right (quiet_tested o at meant index m i below) (write_corresponds w line meant i (assigned op (kind_of_object meant) (kind_of e) old v) f below near))))

-- ---- arguments of known names

-- an argument with no action, which has this value on both sides
pub record IsFixed (c : Calls) (o : ℕ) (e : ScopedExpression) (v : ℕ) : Type 0 where
  pub no : is_object_argument e ≡ false
  pub source : (s : Locals) → Quiet (expression_trace c e) s v s
  pub tree : (s : Locals) → Quiet (expression_trace no_calls (shift o e)) s v s

-- NULL, or the constant 0
pub attribute_fixed : (c : Calls) (o : ℕ) (e : ScopedExpression) → IsNoAttribute e → (v : ℕ) × IsFixed c o e v
attribute_fixed c o (null line kind) f = (0, record { no = refl; source = λ s. quiet_value; tree = λ s. quiet_value })
attribute_fixed c o (constant line v form kind) f = (v, record { no = refl; source = λ s. quiet_value; tree = λ s. quiet_value })
attribute_fixed c o e f = absurd f

-- the name of a start routine
pub start_fixed : (c : Calls) (o : ℕ) (w : Setting) (e : ScopedExpression) → IsStart w e → (v : ℕ) × IsFixed c o e v
start_fixed c o w (object (lvalue line (Routine function) whole checked) kind) f = (
  function,
  record {
    no = refl;
    source = λ s. quiet_then (quiet_then quiet_value (quiet_gives quiet_value)) quiet_value;
    tree = λ s. quiet_then (quiet_then quiet_value (quiet_gives quiet_value)) quiet_value;
  },
)
start_fixed c o w e f = absurd f

-- the index of an object that is handed on
abbrev pub index_in : ScopedExpression → ScopedIndex
index_in (address line (lvalue at meant index checked) kind) = index
index_in (object (lvalue at meant index checked) kind) = index
index_in e = whole

-- values after the forms
pub more_values : (w : Setting) (es : ScopedExpressions) → AreArguments w true [] es → AreValues w es
more_values w none f = tt
more_values w (and e es) f = (f.1, f.2, f.3)

abbrev pub is_object_form : Form → Bool
is_object_form some_value = false
is_object_form no_attribute = false
is_object_form format = false
is_object_form start = false
is_object_form new_thread = true
is_object_form made_thread = true
is_object_form mutex = true
is_object_form cond = true

abbrev pub are_attributes : List Form → Bool
are_attributes [] = true
are_attributes (no_attribute ∷ forms) = are_attributes forms
are_attributes (form ∷ forms) = false

-- an object, and attributes that are left out
abbrev pub takes_object : Form → List Form → Bool
takes_object form forms = is_object_form form && are_attributes forms

true_of : (b : Bool) → (b ≡ false → ⊥) → b ≡ true
true_of true h = refl
true_of false h = absurd (h refl)

both_left : (a b : Bool) → (a && b) ≡ true → a ≡ true
both_left true b h = refl
both_left false b h = h

both_right : (a b : Bool) → (a && b) ≡ true → b ≡ true
both_right true b h = h
both_right false b h = absurd (false≢true h)

-- an argument of the form of an object is one
handed_form : (w : Setting) (form : Form) (e : ScopedExpression) → is_object_form form ≡ true → IsArgument w form e (IsScoped w e) (IsIndexed w e) → is_object_argument e ≡ true
handed_form w some_value e g f = absurd (false≢true g)
handed_form w no_attribute e g f = absurd (false≢true g)
handed_form w format e g f = absurd (false≢true g)
handed_form w start e g f = absurd (false≢true g)
handed_form w new_thread e g f = true_of (is_object_argument e) (address_is_handed e f.0)
handed_form w made_thread e g f = true_of (is_object_argument e) (thread_is_handed w e f.0 f.1)
handed_form w mutex e g f = true_of (is_object_argument e) (address_is_handed e f.0)
handed_form w cond e g f = true_of (is_object_argument e) (address_is_handed e f.0)

pub thing_handed : (w : Setting) (form : Form) (forms : List Form) (e : ScopedExpression) → takes_object form forms ≡ true → IsArgument w form e (IsScoped w e) (IsIndexed w e) → is_object_argument e ≡ true
thing_handed w form forms e g f = handed_form w form e (both_left (is_object_form form) (are_attributes forms) g) f

attribute_calls_none : (e : ScopedExpression) → IsNoAttribute e → has_call e ≡ false
attribute_calls_none (null line kind) f = refl
attribute_calls_none (constant line v form kind) f = refl
attribute_calls_none e f = absurd f

attributes_call_none : (w : Setting) (forms : List Form) (es : ScopedExpressions) → are_attributes forms ≡ true → AreArguments w false forms es → all_have_call es ≡ false
attributes_call_none w [] none g f = refl
attributes_call_none w [] (and e es) g f = absurd (false≢true f.0)
attributes_call_none w (no_attribute ∷ forms) none g f = absurd f
attributes_call_none w (no_attribute ∷ forms) (and e es) g f = rw (attribute_calls_none e f.0.1) (attributes_call_none w forms es g f.1)
attributes_call_none w (some_value ∷ forms) es g f = absurd (false≢true g)
attributes_call_none w (format ∷ forms) es g f = absurd (false≢true g)
attributes_call_none w (start ∷ forms) es g f = absurd (false≢true g)
attributes_call_none w (new_thread ∷ forms) es g f = absurd (false≢true g)
attributes_call_none w (made_thread ∷ forms) es g f = absurd (false≢true g)
attributes_call_none w (mutex ∷ forms) es g f = absurd (false≢true g)
attributes_call_none w (cond ∷ forms) es g f = absurd (false≢true g)

pub rest_calls_none : (w : Setting) (form : Form) (forms : List Form) (es : ScopedExpressions) → takes_object form forms ≡ true → AreArguments w false forms es → all_have_call es ≡ false
rest_calls_none w form forms es g f = attributes_call_none w forms es (both_right (is_object_form form) (are_attributes forms) g) f

-- ---- objects and values with no action

pub quiet_values_first : (c : Calls) (e : ScopedExpression) (rest : ScopedExpressions) {v : ℕ} {vs : List ℕ} {s : Locals} → is_object_argument e ≡ false →
    Quiet (expression_trace c e) s v s → Quiet (values_trace c rest) s vs s → Quiet (values_trace c (and e rest)) s (v ∷ vs) s
quiet_values_first c e rest {v} {vs} {s} bare q r =
    subst (λ (b : Bool). Quiet (picks b (values_trace c rest) (expression_trace c e and_then λ v. values_trace c rest gives λ vs. v ∷ vs)) s (v ∷ vs) s) (sym bare) (quiet_then q (quiet_gives r))

pub quiet_objects_first : (c : Calls) (e : ScopedExpression) (rest : ScopedExpressions) {os : List ℕ} {s : Locals} → is_object_argument e ≡ false →
    Quiet (objects_trace c rest) s os s → Quiet (objects_trace c (and e rest)) s os s
quiet_objects_first c e rest {os} {s} bare r =
    subst (λ (b : Bool). Quiet (picks b (handed_trace c e and_then λ o. objects_trace c rest gives λ os. o ∷ os) (objects_trace c rest)) s os s) (sym bare) r

pub quiet_objects_of : (c : Calls) (w : Setting) (es : ScopedExpressions) {s : Locals} → AreValues w es → Quiet (objects_trace c es) s [] s
quiet_objects_of c w none f = quiet_value
quiet_objects_of c w (and e es) f = quiet_objects_first c e es (scoped_no_object w e f.0) (quiet_objects_of c w es f.2)
