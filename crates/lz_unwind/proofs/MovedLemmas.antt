-- An expression with no call does the same on moved locals.
use Rattle.std.proofs.Common.{◌≡◌, ◌≢◌, ℕ, zero, suc, ◌+◌, ◌<◌, ◌⊎◌, inl, inr, Bool, true, false, ◌||◌, nat_lt, List, [], ◌∷◌, slice_index, Option, Some, None, if◌then◌else◌, refl, sym, ap, ap₂, ◌∙◌, subst, arith, add_assoc}
use Rattle.std.proofs.lemmas.Bool.{true≢false, false≢true, ltb-true}
use Rattle.std.proofs.lemmas.Bool.Decides.{eqb_tells}
use Rattle.std.specs.Prelude.{eqb, ⊤}
use Rattle.lz_base.specs.Words.{is_true, truth}
use Rattle.lz_base.specs.declared.word.BreakKind.{BreakKind}
use Rattle.lz_base.specs.declared.word.BreakKind.TheVariants as kinds
use Rattle.lz_base.specs.declared.word.IntType.{IntType}
use Rattle.lz_base.specs.declared.operator.Binary.{Binary}
use Rattle.lz_base.specs.declared.operator.Binary.TheVariants as ops
use Rattle.lz_tree.specs.declared.scoped.KnownName.{KnownName}
use Rattle.lz_tree.specs.declared.scoped.KnownName.TheVariants as known
use Rattle.lz_tree.specs.declared.scoped.Object.{Object}
use Rattle.lz_tree.specs.declared.scoped.Object.TheVariants.{Local, Cell, Mutex, Cond, Handle, Routine, Known}
use Rattle.lz_tree.specs.ScopedTrees.{ScopedExpression, constant, null, text, object, address, paren, unary, cast, binary, choose, assign, step, call, lvalue, ScopedIndex, whole, element, ScopedExpressions, none, and}
use Rattle.lz_model.specs.Behaviours.{Behaviour, ◌and_then◌, ◌gives◌}
use Rattle.lz_model.specs.CodeTraces.{Locals, Calls, no_calls, put, set_local, set_handle, checks, assumes, read_at, write_at, len_of, kind_of_object, kind_of, kind_or, needs, checks_index, behind_first, checks_divisor, right_operand, operated, unary_operated, assigned, stepped, is_division, known_trace, expression_trace, objects_trace, values_trace, handed_trace, place_trace, index_trace, is_object_argument, first_of, is_handle}
use Rattle.lz_agree.proofs.CorrespondsLemmas.{corresponds_value, corresponds_act, corresponds_halts, corresponds_leaves, corresponds_chooses, corresponds_less, corresponds_then, corresponds_same_then, corresponds_gives_left, corresponds_gives_right, corresponds_act_then, corresponds_picks, corresponds_tells}
use Rattle.lz_agree.specs.Correspondence.{Corresponds}
use Rattle.lz_tree.specs.WellFormed.{is_logical}
use Rattle.lz_tree.specs.WellScoped.{Setting, IsInteger, IsMutex, IsCond, IsThread, Form, some_value, no_attribute, format, start, new_thread, made_thread, mutex, cond, forms_of, takes_more, kind_at, is_address, is_object, meant_by, IsArgument, IsScoped, IsIndex, AreValues, AreArguments, IsIndexed, IsFormat, IsStart}
use Rattle.lz_unwind.proofs.CallsLemmas.{put_same, put_other}
use Rattle.lz_unwind.specs.Moved.{moved, shift, shift_index, shift_all, has_call, index_has_call, all_have_call}
use Rattle.lz_unwind.specs.Relation.{Near}

pub or_left : (a b : Bool) → (a || b) ≡ false → a ≡ false
or_left false b e = refl
or_left true b e = e

pub or_right : (a b : Bool) → (a || b) ≡ false → b ≡ false
or_right false b e = e
or_right true b e = absurd (true≢false e)

-- what is neither in the frame nor its result is as before
pub record Still (o l : ℕ) (t t' : Locals) : Type 0 where
  pub same : (k : ℕ) → (k < o) ⊎ (o + l < k) → t'.frame k ≡ t.frame k

-- the locals of both sides after a step
pub record Steps (o l m : ℕ) (t s' t' : Locals) : Type 0 where
  pub near : Near o l m s' t'
  pub still : Still o l t t'

pub steps_same : {o l m : ℕ} {s t : Locals} → Near o l m s t → Steps o l m t s t
steps_same n = record { near = n; still = record { same = λ k h. refl } }

pub steps_trans : {o l m : ℕ} {t s' t' s'' t'' : Locals} → Steps o l m t s' t' → Steps o l m t' s'' t'' → Steps o l m t s'' t''
steps_trans a b = record { near = b.near; still = record { same = λ k h. b.still.same k h ∙ a.still.same k h } }

-- ---- what does not change

pub kind_of-shift : (o : ℕ) (e : ScopedExpression) → kind_of (shift o e) ≡ kind_of e
kind_of-shift o (constant line value form kind) = refl
kind_of-shift o (null line kind) = refl
kind_of-shift o (text line kind) = refl
kind_of-shift o (object (lvalue line meant index checked) kind) = refl
kind_of-shift o (address line (lvalue at meant index checked) kind) = refl
kind_of-shift o (paren line e kind) = refl
kind_of-shift o (unary line op e kind) = refl
kind_of-shift o (cast line to e kind) = refl
kind_of-shift o (binary line op a b kind) = refl
kind_of-shift o (choose line a b c kind) = refl
kind_of-shift o (assign line op (lvalue at meant index checked) e kind) = refl
kind_of-shift o (step line (lvalue at meant index checked) up before kind) = refl
kind_of-shift o (call line callee args kind) = refl

pub kind_at-shift : (o : ℕ) (e : ScopedExpression) → kind_at (shift o e) ≡ kind_at e
kind_at-shift o (constant line value form kind) = refl
kind_at-shift o (null line kind) = refl
kind_at-shift o (text line kind) = refl
kind_at-shift o (object (lvalue line meant index checked) kind) = refl
kind_at-shift o (address line (lvalue at meant index checked) kind) = refl
kind_at-shift o (paren line e kind) = refl
kind_at-shift o (unary line op e kind) = refl
kind_at-shift o (cast line to e kind) = refl
kind_at-shift o (binary line op a b kind) = refl
kind_at-shift o (choose line a b c kind) = refl
kind_at-shift o (assign line op (lvalue at meant index checked) e kind) = refl
kind_at-shift o (step line (lvalue at meant index checked) up before kind) = refl
kind_at-shift o (call line callee args kind) = refl

pub len_of-moved : (o : ℕ) (x : Object) → len_of (moved o x) ≡ len_of x
len_of-moved o (Local first len kind) = refl
len_of-moved o (Cell first len kind) = refl
len_of-moved o (Mutex first len) = refl
len_of-moved o (Cond first len) = refl
len_of-moved o (Handle first len) = refl
len_of-moved o (Routine function) = refl
len_of-moved o (Known name) = refl

pub kind_of_object-moved : (o : ℕ) (x : Object) → kind_of_object (moved o x) ≡ kind_of_object x
kind_of_object-moved o (Local first len kind) = refl
kind_of_object-moved o (Cell first len kind) = refl
kind_of_object-moved o (Mutex first len) = refl
kind_of_object-moved o (Cond first len) = refl
kind_of_object-moved o (Handle first len) = refl
kind_of_object-moved o (Routine function) = refl
kind_of_object-moved o (Known name) = refl

pub is_handle-moved : (o : ℕ) (x : Object) → is_handle (moved o x) ≡ is_handle x
is_handle-moved o (Local first len kind) = refl
is_handle-moved o (Cell first len kind) = refl
is_handle-moved o (Mutex first len) = refl
is_handle-moved o (Cond first len) = refl
is_handle-moved o (Handle first len) = refl
is_handle-moved o (Routine function) = refl
is_handle-moved o (Known name) = refl

pub is_object_argument-shift : (o : ℕ) (e : ScopedExpression) → is_object_argument (shift o e) ≡ is_object_argument e
is_object_argument-shift o (constant line value form kind) = refl
is_object_argument-shift o (null line kind) = refl
is_object_argument-shift o (text line kind) = refl
is_object_argument-shift o (object (lvalue line meant index checked) kind) = is_handle-moved o meant
is_object_argument-shift o (address line (lvalue at meant index checked) kind) = refl
is_object_argument-shift o (paren line e kind) = refl
is_object_argument-shift o (unary line op e kind) = refl
is_object_argument-shift o (cast line to e kind) = refl
is_object_argument-shift o (binary line op a b kind) = refl
is_object_argument-shift o (choose line a b c kind) = refl
is_object_argument-shift o (assign line op (lvalue at meant index checked) e kind) = refl
is_object_argument-shift o (step line (lvalue at meant index checked) up before kind) = refl
is_object_argument-shift o (call line callee args kind) = refl

-- an operator that takes both operands
pub after_plain : (line : ℕ) (op : Binary) (l r : IntType) (second : Behaviour Locals ℕ) (a : ℕ) → is_logical op ≡ false →
    behind_first line op l r second a ≡ (second and_then λ b. checks_divisor line op (right_operand op l r b) gives λ _. operated op l r a b)
after_plain line ops.Mul l r second a e = refl
after_plain line ops.Div l r second a e = refl
after_plain line ops.Rem l r second a e = refl
after_plain line ops.Add l r second a e = refl
after_plain line ops.Sub l r second a e = refl
after_plain line ops.Shl l r second a e = refl
after_plain line ops.Shr l r second a e = refl
after_plain line ops.Lt l r second a e = refl
after_plain line ops.Gt l r second a e = refl
after_plain line ops.Le l r second a e = refl
after_plain line ops.Ge l r second a e = refl
after_plain line ops.Eq l r second a e = refl
after_plain line ops.Ne l r second a e = refl
after_plain line ops.BitAnd l r second a e = refl
after_plain line ops.BitXor l r second a e = refl
after_plain line ops.BitOr l r second a e = refl
after_plain line ops.Both l r second a e = absurd (true≢false e)
after_plain line ops.Either l r second a e = absurd (true≢false e)

-- ---- one access

pub near_put : {o l m : ℕ} {s t : Locals} (i v : ℕ) → i < l → Near o l m s t → Near o l m (set_local i v s) (set_local (o + i) v t)
near_put {o} {l} {m} {s} {t} i v b n = record {
  here = λ k h. at k h (eqb_tells k i);
  result = put_other (o + i) v t.frame (o + l) (omega arith) ∙ n.result;
  unused = λ k h. put_other (o + i) v t.frame k (omega (arith, n.room)) ∙ n.unused k h;
  handles = n.handles;
  room = n.room;
}
  where
    at : (k : ℕ) → k < l → ((eqb k i ≡ true) × (k ≡ i)) ⊎ ((eqb k i ≡ false) × (k ≢ i)) → put (o + i) v t.frame (o + k) ≡ put i v s.frame k
    at k h (inl e) = rw e.1 (put_same (o + i) v t.frame ∙ sym (put_same i v s.frame))
    at k h (inr e) = put_other (o + i) v t.frame (o + k) (omega (arith, e.1)) ∙ n.here k h ∙ sym (put_other i v s.frame k e.1)

still_put : {o l : ℕ} {t : Locals} (i v : ℕ) → i < l → Still o l t (set_local (o + i) v t)
still_put {o} {l} {t} i v b = record { same = λ k h. put_other (o + i) v t.frame k (λ e. elim h [ inl x ↦ omega arith | inr x ↦ omega arith ]) }

module _ {Back : Type 0} {o m : ℕ} (w : Setting) where
  pub read_corresponds : (line : ℕ) (x : Object) (i : ℕ) {s t : Locals} → IsInteger w x → i < len_of x → Near o w.locals m s t →
      Corresponds Back (read_at line x i) s (read_at line (moved o x) i) t (λ v s' u t'. (u ≡ v) × Steps o w.locals m t s' t')
  read_corresponds line (Local first len kind) i {s} {t} f b n =
      let e = f.0.within in corresponds_tells (ap t.frame (add_assoc o first i) ∙ n.here (first + i) (omega arith), steps_same n)
  read_corresponds line (Cell first len kind) i {s} {t} f b n = corresponds_chooses 0 (omega arith) (λ v h. corresponds_act (refl, steps_same n))
  read_corresponds line (Mutex first len) i f b n = absurd f
  read_corresponds line (Cond first len) i f b n = absurd f
  read_corresponds line (Handle first len) i f b n = absurd f
  read_corresponds line (Routine function) i f b n = absurd f
  read_corresponds line (Known name) i f b n = absurd f

  pub write_corresponds : (line : ℕ) (x : Object) (i v : ℕ) {s t : Locals} → IsInteger w x → i < len_of x → Near o w.locals m s t →
      Corresponds Back (write_at line x i v) s (write_at line (moved o x) i v) t (λ v s' u t'. (u ≡ v) × Steps o w.locals m t s' t')
  write_corresponds line (Local first len kind) i v {s} {t} f b n =
      let within = f.0.within in
      let e = sym (add_assoc o first i) in
      let p : first + i < w.locals = omega arith in
      corresponds_act (
        refl,
        record {
          near = subst (λ (k : ℕ). Near o w.locals m (set_local (first + i) v s) (set_local k v t)) e (near_put (first + i) v p n);
          still = subst (λ (k : ℕ). Still o w.locals t (set_local k v t)) e (still_put (first + i) v p);
        },
      )
  write_corresponds line (Cell first len kind) i v {s} {t} f b n = corresponds_act (refl, steps_same n)
  write_corresponds line (Mutex first len) i v f b n = absurd f
  write_corresponds line (Cond first len) i v f b n = absurd f
  write_corresponds line (Handle first len) i v f b n = absurd f
  write_corresponds line (Routine function) i v f b n = absurd f
  write_corresponds line (Known name) i v f b n = absurd f

-- after a check nothing has changed
pub record Passes (holds : Type 0) (s t s' t' : Locals) : Type 0 where
  pub left : s' ≡ s
  pub right : t' ≡ t
  pub holds_ : holds

module _ {Back : Type 0} {A C D : Type 0} where
  pub corresponds_passed_then : {P : Behaviour Locals A} {s : Locals} {Q : Behaviour Locals A} {t : Locals} {H : Type 0} {next : A → Behaviour Locals C} {next' : A → Behaviour Locals D} {Post : C → Locals → D → Locals → Type 0} →
      Corresponds Back P s Q t (λ a s' b t'. (b ≡ a) × Passes H s t s' t') → ((a : A) → H → Corresponds Back (next a) s (next' a) t Post) → Corresponds Back (P and_then next) s (Q and_then next') t Post
  corresponds_passed_then {s = s} {t = t} {next = next} {next' = next'} {Post = Post} first rest =
      corresponds_same_then first (λ a s' t' p. subst (λ z. Corresponds Back (next a) z (next' a) t' Post) (sym p.left) (subst (λ z. Corresponds Back (next a) s (next' a) z Post) (sym p.right) (rest a p.holds_)))

pub checks_correspond : {Back : Type 0} (line v : ℕ) (kind : BreakKind) {s t : Locals} →
    Corresponds Back (checks line v kind) s (checks line v kind) t (λ a s' b t'. (b ≡ a) × Passes (v ≢ 0) s t s' t')
checks_correspond line zero kind = corresponds_then {Mid = λ a s' b t'. ⊤} (corresponds_act tt) (λ a s' b t' h. corresponds_halts)
checks_correspond line (suc v) kind = corresponds_act (refl, record { left = refl; right = refl; holds_ = λ e. cc })

pub divisor_corresponds : {Back : Type 0} (line : ℕ) (op : Binary) (d : ℕ) {s t : Locals} →
    Corresponds Back (checks_divisor line op d) s (checks_divisor line op d) t (λ a s' b t'. (b ≡ a) × Passes ⊤ s t s' t')
divisor_corresponds line op d = corresponds_picks (is_division op)
    (λ _. corresponds_less (checks_correspond line d kinds.DivZero) (λ a s' b t' h. (h.0, record { left = h.1.left; right = h.1.right; holds_ = tt })))
    (λ _. corresponds_value (refl, record { left = refl; right = refl; holds_ = tt }))

pub fits_of : (b : Bool) → truth b ≢ 0 → b ≡ true
fits_of true h = refl
fits_of false h = absurd (h refl)

needs_correspond : {Back : Type 0} (b : Bool) {s t : Locals} → Corresponds Back (needs b) s (needs b) t (λ a s' b' t'. (b' ≡ a) × Passes (b ≡ true) s t s' t')
needs_correspond true = corresponds_value (refl, record { left = refl; right = refl; holds_ = refl })
needs_correspond false = corresponds_halts

-- the value of an index that is not written
abbrev pub IsAtIndex : ScopedIndex → ℕ → Type 0
IsAtIndex whole i = i ≡ 0
IsAtIndex (element e) i = ⊤

pub index_checked : {Back : Type 0} (o : ℕ) (w : Setting) (line : ℕ) (meant : Object) (index : ScopedIndex) (checked : Bool) (i : ℕ) {s t : Locals} → IsIndex w meant checked index → IsAtIndex index i →
    Corresponds Back (checks_index line meant index checked i) s (checks_index line (moved o meant) (shift_index o index) checked i) t (λ a s' b t'. (b ≡ a) × Passes (i < len_of meant) s t s' t')
index_checked o w line meant whole checked i f at = let one = f.0 in corresponds_value (refl, record { left = refl; right = refl; holds_ = omega (arith, at, one) })
index_checked {Back} o w line meant (element e) true i {s} {t} f at =
    subst (λ (n : ℕ). Corresponds Back (needs (nat_lt i (len_of meant))) s (needs (nat_lt i n)) t (λ a s' b t'. (b ≡ a) × Passes (i < len_of meant) s t s' t')) (sym (len_of-moved o meant))
    (corresponds_less (needs_correspond (nat_lt i (len_of meant))) (λ a s' b t' h. (h.0, record { left = h.1.left; right = h.1.right; holds_ = ltb-true i (len_of meant) h.1.holds_ })))
index_checked {Back} o w line meant (element e) false i {s} {t} f at =
    subst (λ (n : ℕ). Corresponds Back (checks line (truth (nat_lt i (len_of meant))) kinds.Bounds) s (checks line (truth (nat_lt i n)) kinds.Bounds) t (λ a s' b t'. (b ≡ a) × Passes (i < len_of meant) s t s' t')) (sym (len_of-moved o meant))
    (corresponds_less (checks_correspond line (truth (nat_lt i (len_of meant))) kinds.Bounds)
    (λ a s' b t' h. (h.0, record { left = h.1.left; right = h.1.right; holds_ = ltb-true i (len_of meant) (fits_of (nat_lt i (len_of meant)) h.1.holds_) })))

-- an index, and what is known of it
pub record Indexed (o l m : ℕ) (index : ScopedIndex) (i : ℕ) (t s' t' : Locals) : Type 0 where
  pub steps : Steps o l m t s' t'
  pub at : IsAtIndex index i

-- an index in range
pub record Placed (o l m : ℕ) (meant : Object) (i : ℕ) (t s' t' : Locals) : Type 0 where
  pub steps : Steps o l m t s' t'
  pub below : i < len_of meant

pub steps_passed : {o l m : ℕ} {t s1 t1 s' t' : Locals} {H : Type 0} → Steps o l m t s1 t1 → Passes H s1 t1 s' t' → Steps o l m t s' t'
steps_passed {o} {l} {m} {t} {s1} {t1} {s'} {t'} h p = subst (λ (z : Locals). Steps o l m t z t') (sym p.left) (subst (λ (z : Locals). Steps o l m t s1 z) (sym p.right) h)

module _ {Back : Type 0} {o l m : ℕ} where
  plain_corresponds : (line : ℕ) (op : Binary) (k r : IntType) (a : ℕ) {second second' : Behaviour Locals ℕ} {s t t0 : Locals} →
      Corresponds Back second s second' t (λ v s' u t'. (u ≡ v) × Steps o l m t0 s' t') →
      Corresponds Back (second and_then λ b. checks_divisor line op (right_operand op k r b) gives λ _. operated op k r a b) s
      (second' and_then λ b. checks_divisor line op (right_operand op k r b) gives λ _. operated op k r a b) t (λ v s' u t'. (u ≡ v) × Steps o l m t0 s' t')
  plain_corresponds line op k r a h = corresponds_same_then h (λ b s2 t2 h2.
      corresponds_gives_left (corresponds_gives_right (corresponds_less (divisor_corresponds line op (right_operand op k r b)) (λ x s' y t' p. (refl, steps_passed h2 p.1)))))

  after_corresponds : (line : ℕ) (op : Binary) (k r : IntType) (a : ℕ) {second second' : Behaviour Locals ℕ} {s t t0 : Locals} → Steps o l m t0 s t →
      Corresponds Back second s second' t (λ v s' u t'. (u ≡ v) × Steps o l m t0 s' t') →
      Corresponds Back (behind_first line op k r second a) s (behind_first line op k r second' a) t (λ v s' u t'. (u ≡ v) × Steps o l m t0 s' t')
  after_corresponds line ops.Both k r a now h = corresponds_act_then (corresponds_picks (is_true a)
      (λ _. corresponds_gives_left (corresponds_gives_right (corresponds_less h (λ v s' u t' g. (ap (λ (x : ℕ). truth (is_true x)) g.0, g.1)))))
      (λ _. corresponds_value (refl, now)))
  after_corresponds line ops.Either k r a now h = corresponds_act_then (corresponds_picks (is_true a)
      (λ _. corresponds_value (refl, now))
      (λ _. corresponds_gives_left (corresponds_gives_right (corresponds_less h (λ v s' u t' g. (ap (λ (x : ℕ). truth (is_true x)) g.0, g.1))))))
  after_corresponds line ops.Mul k r a now h = plain_corresponds line ops.Mul k r a h
  after_corresponds line ops.Div k r a now h = plain_corresponds line ops.Div k r a h
  after_corresponds line ops.Rem k r a now h = plain_corresponds line ops.Rem k r a h
  after_corresponds line ops.Add k r a now h = plain_corresponds line ops.Add k r a h
  after_corresponds line ops.Sub k r a now h = plain_corresponds line ops.Sub k r a h
  after_corresponds line ops.Shl k r a now h = plain_corresponds line ops.Shl k r a h
  after_corresponds line ops.Shr k r a now h = plain_corresponds line ops.Shr k r a h
  after_corresponds line ops.Lt k r a now h = plain_corresponds line ops.Lt k r a h
  after_corresponds line ops.Gt k r a now h = plain_corresponds line ops.Gt k r a h
  after_corresponds line ops.Le k r a now h = plain_corresponds line ops.Le k r a h
  after_corresponds line ops.Ge k r a now h = plain_corresponds line ops.Ge k r a h
  after_corresponds line ops.Eq k r a now h = plain_corresponds line ops.Eq k r a h
  after_corresponds line ops.Ne k r a now h = plain_corresponds line ops.Ne k r a h
  after_corresponds line ops.BitAnd k r a now h = plain_corresponds line ops.BitAnd k r a h
  after_corresponds line ops.BitXor k r a now h = plain_corresponds line ops.BitXor k r a h
  after_corresponds line ops.BitOr k r a now h = plain_corresponds line ops.BitOr k r a h

-- an index and its check
pub place_from : {Back : Type 0} {m : ℕ} (o : ℕ) (w : Setting) (calls : Calls) (line : ℕ) (meant : Object) (index : ScopedIndex) (checked : Bool) {s t : Locals} → IsIndex w meant checked index →
    Corresponds Back (index_trace calls index) s (index_trace no_calls (shift_index o index)) t (λ i s' j t'. (j ≡ i) × Indexed o w.locals m index i t s' t') →
    Corresponds Back (place_trace calls (lvalue line meant index checked)) s (place_trace no_calls (lvalue line (moved o meant) (shift_index o index) checked)) t (λ i s' j t'. (j ≡ i) × Placed o w.locals m meant i t s' t')
place_from o w calls line meant index checked f h =
    corresponds_same_then h (λ i s1 t1 h1.
    corresponds_gives_left (corresponds_gives_right (corresponds_less (index_checked o w line meant index checked i f h1.at)
    (λ a s' b t' p. (refl, record { steps = steps_passed h1.steps p.1; below = p.1.holds_ })))))

-- ---- known names

pub assumes_correspond : {Back : Type 0} (line v : ℕ) {s t : Locals} → Corresponds Back (assumes line v) s (assumes line v) t (λ a s' b t'. (b ≡ a) × Passes ⊤ s t s' t')
assumes_correspond line zero = corresponds_then {Mid = λ a s' b t'. ⊤} (corresponds_act tt) (λ a s' b t' h. corresponds_halts)
assumes_correspond line (suc v) = corresponds_act (refl, record { left = refl; right = refl; holds_ = tt })

pub near_handle : {o l m : ℕ} {s t : Locals} (i v : ℕ) → Near o l m s t → Near o l m (set_handle i v s) (set_handle i v t)
near_handle i v n = record { here = n.here; result = n.result; unused = n.unused; handles = ap (put i v) n.handles; room = n.room }

pub known_same : {Back : Type 0} {o l m : ℕ} (line : ℕ) (name : KnownName) (os vs : List ℕ) {s t : Locals} → Near o l m s t →
    Corresponds Back (known_trace line name os vs) s (known_trace line name os vs) t (λ v s' u t'. (u ≡ v) × Steps o l m t s' t')
known_same {o = o} {l = l} {m = m} line known.Assert os vs {t = t} n = corresponds_less (checks_correspond line (slice_index vs 0) kinds.Assert) (λ a s' b t' p. (p.0, steps_passed (steps_same n) p.1))
known_same {o = o} {l = l} {m = m} line known.Assume os vs {t = t} n = corresponds_less (assumes_correspond line (slice_index vs 0)) (λ a s' b t' p. (p.0, steps_passed (steps_same n) p.1))
known_same {o = o} {l = l} {m = m} line known.NondetInt os vs {t = t} n = corresponds_chooses 0 (omega arith) (λ v h. corresponds_act (refl, steps_same n))
known_same {o = o} {l = l} {m = m} line known.NondetUint os vs {t = t} n = corresponds_chooses 0 (omega arith) (λ v h. corresponds_act (refl, steps_same n))
known_same {o = o} {l = l} {m = m} line known.Error os vs {t = t} n = corresponds_less (checks_correspond line 0 kinds.Reached) (λ a s' b t' p. (p.0, steps_passed (steps_same n) p.1))
known_same {o = o} {l = l} {m = m} line known.ReachError os vs {t = t} n = corresponds_less (checks_correspond line 0 kinds.Reached) (λ a s' b t' p. (p.0, steps_passed (steps_same n) p.1))
known_same {o = o} {l = l} {m = m} line known.Abort os vs {t = t} n = corresponds_less (assumes_correspond line 0) (λ a s' b t' p. (p.0, steps_passed (steps_same n) p.1))
known_same {o = o} {l = l} {m = m} line known.AtomicBegin os vs {t = t} n = corresponds_act (refl, steps_same n)
known_same {o = o} {l = l} {m = m} line known.AtomicEnd os vs {t = t} n = corresponds_act (refl, steps_same n)
known_same {o = o} {l = l} {m = m} line known.Create os vs {t = t} n = corresponds_chooses 0 tt (λ d _. corresponds_act_then (corresponds_act (refl, record { near = near_handle (slice_index os 0) d n; still = record { same = λ k h. refl } })))
known_same {o = o} {l = l} {m = m} line known.Join os vs {t = t} n = corresponds_same_then {Mid = λ d s' t'. Steps o l m t s' t'} (corresponds_tells (ap (λ (h : ℕ → ℕ). h (slice_index os 0)) n.handles, steps_same n)) (λ d s1 t1 h. corresponds_act (refl, h))
known_same {o = o} {l = l} {m = m} line known.Exit os vs {t = t} n = corresponds_leaves
known_same {o = o} {l = l} {m = m} line known.MutexInit os vs {t = t} n = corresponds_act (refl, steps_same n)
known_same {o = o} {l = l} {m = m} line known.MutexDestroy os vs {t = t} n = corresponds_value (refl, steps_same n)
known_same {o = o} {l = l} {m = m} line known.MutexLock os vs {t = t} n = corresponds_act (refl, steps_same n)
known_same {o = o} {l = l} {m = m} line known.MutexUnlock os vs {t = t} n = corresponds_act (refl, steps_same n)
known_same {o = o} {l = l} {m = m} line known.CondInit os vs {t = t} n = corresponds_value (refl, steps_same n)
known_same {o = o} {l = l} {m = m} line known.CondDestroy os vs {t = t} n = corresponds_value (refl, steps_same n)
known_same {o = o} {l = l} {m = m} line known.CondWait os vs {t = t} n = corresponds_act_then (corresponds_act (refl, steps_same n))
known_same {o = o} {l = l} {m = m} line known.CondSignal os vs {t = t} n = corresponds_chooses None tt (λ woken _. corresponds_act (refl, steps_same n))
known_same {o = o} {l = l} {m = m} line known.CondBroadcast os vs {t = t} n = corresponds_act (refl, steps_same n)
known_same {o = o} {l = l} {m = m} line known.Printf os vs {t = t} n = corresponds_value (refl, steps_same n)

-- a value is no object that is handed on
pub scoped_no_object : (w : Setting) (e : ScopedExpression) → IsScoped w e → is_object_argument e ≡ false
scoped_no_object w (constant line value form kind) f = refl
scoped_no_object w (null line kind) f = refl
scoped_no_object w (text line kind) f = refl
scoped_no_object w (object (lvalue line (Local first len k) index checked) kind) f = refl
scoped_no_object w (object (lvalue line (Cell first len k) index checked) kind) f = refl
scoped_no_object w (object (lvalue line (Mutex first len) index checked) kind) f = refl
scoped_no_object w (object (lvalue line (Cond first len) index checked) kind) f = refl
scoped_no_object w (object (lvalue line (Handle first len) index checked) kind) f = absurd f.0
scoped_no_object w (object (lvalue line (Routine function) index checked) kind) f = refl
scoped_no_object w (object (lvalue line (Known name) index checked) kind) f = refl
scoped_no_object w (address line of kind) f = absurd f
scoped_no_object w (paren line e kind) f = refl
scoped_no_object w (unary line op e kind) f = refl
scoped_no_object w (cast line to e kind) f = refl
scoped_no_object w (binary line op a b kind) f = refl
scoped_no_object w (choose line a b c kind) f = refl
scoped_no_object w (assign line op to e kind) f = refl
scoped_no_object w (step line of up before kind) f = refl
scoped_no_object w (call line callee args kind) f = refl

-- an object that is handed on is where it was
pub record IsKept (o : ℕ) (w : Setting) (meant : Object) (index : ScopedIndex) (checked : Bool) : Type 0 where
  pub index_ : IsIndex w meant checked index
  pub first : first_of (moved o meant) ≡ first_of meant

thread_kept : (o : ℕ) (w : Setting) (x : Object) → IsThread w x → first_of (moved o x) ≡ first_of x
thread_kept o w (Handle first len) f = refl
thread_kept o w (Local first len kind) f = absurd f
thread_kept o w (Cell first len kind) f = absurd f
thread_kept o w (Mutex first len) f = absurd f
thread_kept o w (Cond first len) f = absurd f
thread_kept o w (Routine function) f = absurd f
thread_kept o w (Known name) f = absurd f

mutex_kept : (o : ℕ) (w : Setting) (x : Object) → IsMutex w x → first_of (moved o x) ≡ first_of x
mutex_kept o w (Mutex first len) f = refl
mutex_kept o w (Local first len kind) f = absurd f
mutex_kept o w (Cell first len kind) f = absurd f
mutex_kept o w (Handle first len) f = absurd f
mutex_kept o w (Cond first len) f = absurd f
mutex_kept o w (Routine function) f = absurd f
mutex_kept o w (Known name) f = absurd f

cond_kept : (o : ℕ) (w : Setting) (x : Object) → IsCond w x → first_of (moved o x) ≡ first_of x
cond_kept o w (Cond first len) f = refl
cond_kept o w (Local first len kind) f = absurd f
cond_kept o w (Cell first len kind) f = absurd f
cond_kept o w (Handle first len) f = absurd f
cond_kept o w (Mutex first len) f = absurd f
cond_kept o w (Routine function) f = absurd f
cond_kept o w (Known name) f = absurd f

pub address_kept : (o : ℕ) (w : Setting) (form : Form) (line at : ℕ) (meant : Object) (index : ScopedIndex) (checked : Bool) (kind : Option IntType) →
    IsArgument w form (address line (lvalue at meant index checked) kind) ⊥ (IsIndex w meant checked index) → IsKept o w meant index checked
address_kept o w some_value line at meant index checked kind f = absurd f.0
address_kept o w no_attribute line at meant index checked kind f = absurd f.0
address_kept o w format line at meant index checked kind f = absurd f
address_kept o w start line at meant index checked kind f = absurd f
address_kept o w new_thread line at meant index checked kind f = record { index_ = f.2; first = thread_kept o w meant f.1 }
address_kept o w made_thread line at meant index checked kind f = absurd (false≢true f.0)
address_kept o w mutex line at meant index checked kind f = record { index_ = f.2; first = mutex_kept o w meant f.1 }
address_kept o w cond line at meant index checked kind f = record { index_ = f.2; first = cond_kept o w meant f.1 }

pub object_kept : (o : ℕ) (w : Setting) (form : Form) (at first len : ℕ) (index : ScopedIndex) (checked : Bool) (kind : Option IntType) →
    IsArgument w form (object (lvalue at (Handle first len) index checked) kind) (IsScoped w (object (lvalue at (Handle first len) index checked) kind)) (IsIndex w (Handle first len) checked index) → IsKept o w (Handle first len) index checked
object_kept o w some_value at first len index checked kind f = absurd f.0.0
object_kept o w no_attribute at first len index checked kind f = absurd f.0.0
object_kept o w format at first len index checked kind f = absurd f
object_kept o w start at first len index checked kind f = absurd f
object_kept o w new_thread at first len index checked kind f = absurd (false≢true f.0)
object_kept o w made_thread at first len index checked kind f = record { index_ = f.2; first = refl }
object_kept o w mutex at first len index checked kind f = absurd (false≢true f.0)
object_kept o w cond at first len index checked kind f = absurd (false≢true f.0)

-- what is handed on is an object
pub address_is_handed : (e : ScopedExpression) → is_address e ≡ true → is_object_argument e ≡ false → ⊥
address_is_handed (address line of kind) h c = true≢false c
address_is_handed (constant line value form kind) h c = false≢true h
address_is_handed (null line kind) h c = false≢true h
address_is_handed (text line kind) h c = false≢true h
address_is_handed (object of kind) h c = false≢true h
address_is_handed (paren line e kind) h c = false≢true h
address_is_handed (unary line op e kind) h c = false≢true h
address_is_handed (cast line to e kind) h c = false≢true h
address_is_handed (binary line op a b kind) h c = false≢true h
address_is_handed (choose line a b d kind) h c = false≢true h
address_is_handed (assign line op to e kind) h c = false≢true h
address_is_handed (step line of up before kind) h c = false≢true h
address_is_handed (call line callee args kind) h c = false≢true h

pub thread_is_handed : (w : Setting) (e : ScopedExpression) → is_object e ≡ true → IsThread w (meant_by e) → is_object_argument e ≡ false → ⊥
thread_is_handed w (object (lvalue at (Handle first len) index checked) kind) h f c = true≢false c
thread_is_handed w (object (lvalue at (Local first len k) index checked) kind) h f c = f
thread_is_handed w (object (lvalue at (Cell first len k) index checked) kind) h f c = f
thread_is_handed w (object (lvalue at (Mutex first len) index checked) kind) h f c = f
thread_is_handed w (object (lvalue at (Cond first len) index checked) kind) h f c = f
thread_is_handed w (object (lvalue at (Routine function) index checked) kind) h f c = f
thread_is_handed w (object (lvalue at (Known name) index checked) kind) h f c = f
thread_is_handed w (constant line value form kind) h f c = false≢true h
thread_is_handed w (null line kind) h f c = false≢true h
thread_is_handed w (text line kind) h f c = false≢true h
thread_is_handed w (address line of kind) h f c = false≢true h
thread_is_handed w (paren line e kind) h f c = false≢true h
thread_is_handed w (unary line op e kind) h f c = false≢true h
thread_is_handed w (cast line to e kind) h f c = false≢true h
thread_is_handed w (binary line op a b kind) h f c = false≢true h
thread_is_handed w (choose line a b d kind) h f c = false≢true h
thread_is_handed w (assign line op to e kind) h f c = false≢true h
thread_is_handed w (step line of up before kind) h f c = false≢true h
thread_is_handed w (call line callee args kind) h f c = false≢true h

module _ {Back : Type 0} (w : Setting) (o m : ℕ) (calls : Calls) where
  -- the name of a start routine has no action
  pub routine_corresponds : (e : ScopedExpression) {s t : Locals} → IsStart w e → Near o w.locals m s t → Corresponds Back (expression_trace calls e) s (expression_trace no_calls (shift o e)) t (λ v s' u t'. (u ≡ v) × Steps o w.locals m t s' t')
  routine_corresponds (object (lvalue line (Routine function) whole checked) kind) f n =
      corresponds_then {Mid = λ i s' j t'. Steps o w.locals m _ s' t'} (corresponds_then {Mid = λ i s' j t'. Steps o w.locals m _ s' t'} (corresponds_value (steps_same n)) (λ i s1 j t1 h. corresponds_gives_left (corresponds_gives_right (corresponds_value h)))) (λ i s1 j t1 h. corresponds_value (refl, h))
  routine_corresponds (object (lvalue line (Routine function) (element index) checked) kind) f n = absurd f
  routine_corresponds (object (lvalue line (Local first len k) index checked) kind) f n = absurd f
  routine_corresponds (object (lvalue line (Cell first len k) index checked) kind) f n = absurd f
  routine_corresponds (object (lvalue line (Mutex first len) index checked) kind) f n = absurd f
  routine_corresponds (object (lvalue line (Cond first len) index checked) kind) f n = absurd f
  routine_corresponds (object (lvalue line (Handle first len) index checked) kind) f n = absurd f
  routine_corresponds (object (lvalue line (Known name) index checked) kind) f n = absurd f
  routine_corresponds (constant line value form kind) f n = absurd f
  routine_corresponds (null line kind) f n = absurd f
  routine_corresponds (text line kind) f n = absurd f
  routine_corresponds (address line of kind) f n = absurd f
  routine_corresponds (paren line e kind) f n = absurd f
  routine_corresponds (unary line op e kind) f n = absurd f
  routine_corresponds (cast line to e kind) f n = absurd f
  routine_corresponds (binary line op a b kind) f n = absurd f
  routine_corresponds (choose line a b c kind) f n = absurd f
  routine_corresponds (assign line op to e kind) f n = absurd f
  routine_corresponds (step line of up before kind) f n = absurd f
  routine_corresponds (call line callee args kind) f n = absurd f

  pub format_corresponds : (e : ScopedExpression) {s t : Locals} → IsFormat e → Near o w.locals m s t → Corresponds Back (expression_trace calls e) s (expression_trace no_calls (shift o e)) t (λ v s' u t'. (u ≡ v) × Steps o w.locals m t s' t')
  format_corresponds (text line kind) f n = corresponds_value (refl, steps_same n)
  format_corresponds (constant line value form kind) f n = absurd f
  format_corresponds (null line kind) f n = absurd f
  format_corresponds (object of kind) f n = absurd f
  format_corresponds (address line of kind) f n = absurd f
  format_corresponds (paren line e kind) f n = absurd f
  format_corresponds (unary line op e kind) f n = absurd f
  format_corresponds (cast line to e kind) f n = absurd f
  format_corresponds (binary line op a b kind) f n = absurd f
  format_corresponds (choose line a b c kind) f n = absurd f
  format_corresponds (assign line op to e kind) f n = absurd f
  format_corresponds (step line of up before kind) f n = absurd f
  format_corresponds (call line callee args kind) f n = absurd f

  -- an argument that is no object
  value_from : (form : Form) (e : ScopedExpression) {s t : Locals} → is_object_argument e ≡ false → IsArgument w form e (IsScoped w e) (IsIndexed w e) → Near o w.locals m s t → (IsScoped w e → Corresponds Back (expression_trace calls e) s (expression_trace no_calls (shift o e)) t (λ v s' u t'. (u ≡ v) × Steps o w.locals m t s' t')) → Corresponds Back (expression_trace calls e) s (expression_trace no_calls (shift o e)) t (λ v s' u t'. (u ≡ v) × Steps o w.locals m t s' t')
  value_from some_value e c f n h = h f.0
  value_from no_attribute e c f n h = h f.0
  value_from format e c f n h = format_corresponds e f n
  value_from start e c f n h = routine_corresponds e f n
  value_from new_thread e c f n h = absurd (address_is_handed e f.0 c)
  value_from made_thread e c f n h = absurd (thread_is_handed w e f.0 f.1 c)
  value_from mutex e c f n h = absurd (address_is_handed e f.0 c)
  value_from cond e c f n h = absurd (address_is_handed e f.0 c)

  mutual
    pub shift_corresponds : (e : ScopedExpression) {s t : Locals} → has_call e ≡ false → IsScoped w e → Near o w.locals m s t →
        Corresponds Back (expression_trace calls e) s (expression_trace no_calls (shift o e)) t (λ v s' u t'. (u ≡ v) × Steps o w.locals m t s' t')
    shift_corresponds (constant line value form kind) c f n = corresponds_value (refl, steps_same n)
    shift_corresponds (null line kind) c f n = corresponds_value (refl, steps_same n)
    shift_corresponds (text line kind) c f n = absurd f
    shift_corresponds (object (lvalue line meant index checked) kind) c f n =
        corresponds_same_then (place_from o w calls line meant index checked f.2 (index_corresponds meant index checked c f.2 n)) (λ i s1 t1 h1.
        corresponds_less (read_corresponds w line meant i f.0 h1.below h1.steps.near) (λ v s' u t' h. (h.0, steps_trans h1.steps h.1)))
    shift_corresponds (address line of kind) c f n = absurd f
    shift_corresponds (paren line e kind) c f n = shift_corresponds e c f.0 n
    shift_corresponds (unary line op e kind) c f n =
        corresponds_gives_left (corresponds_gives_right (corresponds_less (shift_corresponds e c f.0 n) (λ v s' u t' h. (ap₂ (λ (k : IntType) (x : ℕ). unary_operated op k (kind_or kind) x) (kind_of-shift o e) h.0, h.1))))
    shift_corresponds (cast line to e kind) c f n =
        corresponds_gives_left (corresponds_gives_right (shift_corresponds e c f.0 n))
    shift_corresponds (binary line op a b kind) c f n =
        corresponds_same_then (shift_corresponds a (or_left (has_call a) (has_call b) c) f.0 n) (λ v s1 t1 h1.
        rw (kind_of-shift o a, kind_of-shift o b) (after_corresponds line op (kind_of a) (kind_of b) v h1
        (corresponds_less (shift_corresponds b (or_right (has_call a) (has_call b) c) f.2 h1.near) (λ v s' u t' h. (h.0, steps_trans h1 h.1)))))
    shift_corresponds (choose line a b c kind) d f n =
        corresponds_same_then (shift_corresponds a (or_left (has_call a) (has_call b || has_call c) d) f.0 n) (λ v s1 t1 h1. corresponds_act_then (corresponds_picks (is_true v)
        (λ _. corresponds_gives_left (corresponds_gives_right (corresponds_less (shift_corresponds b (or_left (has_call b) (has_call c) (or_right (has_call a) (has_call b || has_call c) d)) f.2 h1.near) (λ v s' u t' h. (h.0, steps_trans h1 h.1)))))
        (λ _. corresponds_gives_left (corresponds_gives_right (corresponds_less (shift_corresponds c (or_right (has_call b) (has_call c) (or_right (has_call a) (has_call b || has_call c) d)) f.3 h1.near) (λ v s' u t' h. (h.0, steps_trans h1 h.1)))))))
    shift_corresponds (assign line None (lvalue at meant index checked) e kind) c f n =
        corresponds_same_then (index_corresponds meant index checked (or_left (index_has_call index) (has_call e) c) f.1 n) (λ i s1 t1 h1.
        corresponds_same_then (shift_corresponds e (or_right (index_has_call index) (has_call e) c) f.2 h1.steps.near) (λ v s2 t2 h2.
        corresponds_passed_then (index_checked o w at meant index checked i f.1 h1.at) (λ _ b.
        corresponds_less (write_corresponds w line meant i v f.0 b h2.near) (λ v s' u t' h. (h.0, steps_trans h1.steps (steps_trans h2 h.1))))))
    shift_corresponds (assign line (Some op) (lvalue at meant index checked) e kind) c f n =
        corresponds_same_then (place_from o w calls at meant index checked f.1 (index_corresponds meant index checked (or_left (index_has_call index) (has_call e) c) f.1 n)) (λ i s1 t1 h1.
        corresponds_same_then (read_corresponds w line meant i f.0 h1.below h1.steps.near) (λ old s2 t2 h2.
        corresponds_same_then (shift_corresponds e (or_right (index_has_call index) (has_call e) c) f.2 h2.near) (λ v s3 t3 h3.
        rw (kind_of_object-moved o meant, kind_of-shift o e)
        (corresponds_passed_then (divisor_corresponds line op (right_operand op (kind_of_object meant) (kind_of e) v)) (λ _ _.
        corresponds_less (write_corresponds w line meant i (assigned op (kind_of_object meant) (kind_of e) old v) f.0 h1.below h3.near)
        (λ v s' u t' h. (h.0, steps_trans h1.steps (steps_trans h2 (steps_trans h3 h.1)))))))))
    shift_corresponds (step line (lvalue at meant index checked) up before kind) c f n =
        corresponds_same_then (place_from o w calls at meant index checked f.1 (index_corresponds meant index checked c f.1 n)) (λ i s1 t1 h1.
        corresponds_same_then (read_corresponds w line meant i f.0 h1.below h1.steps.near) (λ old s2 t2 h2.
        rw (kind_of_object-moved o meant)
        (corresponds_gives_left (corresponds_gives_right (corresponds_less (write_corresponds w line meant i (stepped up (kind_of_object meant) old) f.0 h1.below h2.near)
        (λ v s' u t' h. (ap (λ (x : ℕ). if before then x else old) h.0, steps_trans h1.steps (steps_trans h2 h.1))))))))
    shift_corresponds (call line (Routine function) args kind) c f n = absurd (true≢false c)
    shift_corresponds (call line (Known name) args kind) {s} {t} c f n =
        corresponds_same_then (objects_correspond (takes_more name) (forms_of name) args c f.0 n) (λ xs s1 t1 h1.
        corresponds_same_then (values_correspond (takes_more name) (forms_of name) args c f.0 h1.near) (λ ys s2 t2 h2.
        corresponds_less (known_same line name xs ys h2.near) (λ v s' u t' h. (h.0, steps_trans h1 (steps_trans h2 h.1)))))
    shift_corresponds (call line (Local first len k) args kind) c f n = absurd f
    shift_corresponds (call line (Cell first len k) args kind) c f n = absurd f
    shift_corresponds (call line (Mutex first len) args kind) c f n = absurd f
    shift_corresponds (call line (Cond first len) args kind) c f n = absurd f
    shift_corresponds (call line (Handle first len) args kind) c f n = absurd f

    pub index_corresponds : (meant : Object) (index : ScopedIndex) (checked : Bool) {s t : Locals} → index_has_call index ≡ false → IsIndex w meant checked index → Near o w.locals m s t →
        Corresponds Back (index_trace calls index) s (index_trace no_calls (shift_index o index)) t (λ i s' j t'. (j ≡ i) × Indexed o w.locals m index i t s' t')
    index_corresponds meant whole checked c f n = corresponds_value (refl, record { steps = steps_same n; at = refl })
    index_corresponds meant (element e) checked c f n = corresponds_less (shift_corresponds e c f.0 n) (λ v s' u t' h. (h.0, record { steps = h.1; at = tt }))

    -- the objects that are handed to a known name
    pub objects_correspond : (more : Bool) (forms : List Form) (args : ScopedExpressions) {s t : Locals} → all_have_call args ≡ false → AreArguments w more forms args → Near o w.locals m s t →
        Corresponds Back (objects_trace calls args) s (objects_trace no_calls (shift_all o args)) t (λ xs s' ys t'. (ys ≡ xs) × Steps o w.locals m t s' t')
    objects_correspond more forms none c f n = corresponds_value (refl, steps_same n)
    objects_correspond more [] (and e rest) {s} {t} c f n =
        let no = scoped_no_object w e f.1 in
        rw (is_object_argument-shift o e, no) (objects_correspond_values rest (or_right (has_call e) (all_have_call rest) c) f.3 n)
    objects_correspond more (form ∷ forms) (and e rest) {s} {t} c f n =
        rw (is_object_argument-shift o e) (corresponds_picks (is_object_argument e)
        (λ h. corresponds_same_then (handed_corresponds form e (or_left (has_call e) (all_have_call rest) c) h f.0 n) (λ x s1 t1 h1.
        corresponds_gives_left (corresponds_gives_right (corresponds_less (objects_correspond more forms rest (or_right (has_call e) (all_have_call rest) c) f.1 h1.near)
        (λ xs s' ys t' g. (ap (λ (zs : List ℕ). x ∷ zs) g.0, steps_trans h1 g.1))))))
        (λ h. objects_correspond more forms rest (or_right (has_call e) (all_have_call rest) c) f.1 n))

    pub objects_correspond_values : (args : ScopedExpressions) {s t : Locals} → all_have_call args ≡ false → AreValues w args → Near o w.locals m s t →
        Corresponds Back (objects_trace calls args) s (objects_trace no_calls (shift_all o args)) t (λ xs s' ys t'. (ys ≡ xs) × Steps o w.locals m t s' t')
    objects_correspond_values none c f n = corresponds_value (refl, steps_same n)
    objects_correspond_values (and e rest) c f n =
        let no = scoped_no_object w e f.0 in
        rw (is_object_argument-shift o e, no) (objects_correspond_values rest (or_right (has_call e) (all_have_call rest) c) f.2 n)

    pub values_correspond : (more : Bool) (forms : List Form) (args : ScopedExpressions) {s t : Locals} → all_have_call args ≡ false → AreArguments w more forms args → Near o w.locals m s t →
        Corresponds Back (values_trace calls args) s (values_trace no_calls (shift_all o args)) t (λ xs s' ys t'. (ys ≡ xs) × Steps o w.locals m t s' t')
    values_correspond more forms none c f n = corresponds_value (refl, steps_same n)
    values_correspond more [] (and e rest) c f n =
        let no = scoped_no_object w e f.1 in
        rw (is_object_argument-shift o e, no) (corresponds_same_then (shift_corresponds e (or_left (has_call e) (all_have_call rest) c) f.1 n) (λ x s1 t1 h1.
        corresponds_gives_left (corresponds_gives_right (corresponds_less (values_correspond_values rest (or_right (has_call e) (all_have_call rest) c) f.3 h1.near)
        (λ xs s' ys t' g. (ap (λ (zs : List ℕ). x ∷ zs) g.0, steps_trans h1 g.1))))))
    values_correspond more (form ∷ forms) (and e rest) c f n =
        rw (is_object_argument-shift o e) (corresponds_picks (is_object_argument e)
        (λ h. values_correspond more forms rest (or_right (has_call e) (all_have_call rest) c) f.1 n)
        (λ h. corresponds_same_then (value_from form e h f.0 n (λ g. shift_corresponds e (or_left (has_call e) (all_have_call rest) c) g n)) (λ x s1 t1 h1.
        corresponds_gives_left (corresponds_gives_right (corresponds_less (values_correspond more forms rest (or_right (has_call e) (all_have_call rest) c) f.1 h1.near)
        (λ xs s' ys t' g. (ap (λ (zs : List ℕ). x ∷ zs) g.0, steps_trans h1 g.1)))))))

    pub values_correspond_values : (args : ScopedExpressions) {s t : Locals} → all_have_call args ≡ false → AreValues w args → Near o w.locals m s t →
        Corresponds Back (values_trace calls args) s (values_trace no_calls (shift_all o args)) t (λ xs s' ys t'. (ys ≡ xs) × Steps o w.locals m t s' t')
    values_correspond_values none c f n = corresponds_value (refl, steps_same n)
    values_correspond_values (and e rest) c f n =
        let no = scoped_no_object w e f.0 in
        rw (is_object_argument-shift o e, no) (corresponds_same_then (shift_corresponds e (or_left (has_call e) (all_have_call rest) c) f.0 n) (λ x s1 t1 h1.
        corresponds_gives_left (corresponds_gives_right (corresponds_less (values_correspond_values rest (or_right (has_call e) (all_have_call rest) c) f.2 h1.near)
        (λ xs s' ys t' g. (ap (λ (zs : List ℕ). x ∷ zs) g.0, steps_trans h1 g.1))))))

    pub handed_corresponds : (form : Form) (e : ScopedExpression) {s t : Locals} → has_call e ≡ false → is_object_argument e ≡ true → IsArgument w form e (IsScoped w e) (IsIndexed w e) → Near o w.locals m s t →
        Corresponds Back (handed_trace calls e) s (handed_trace no_calls (shift o e)) t (λ v s' u t'. (u ≡ v) × Steps o w.locals m t s' t')
    handed_corresponds form (address line (lvalue at meant index checked) kind) c h f n =
        let k = address_kept o w form line at meant index checked kind f in
        corresponds_gives_left (corresponds_gives_right (corresponds_less (place_from o w calls at meant index checked k.index_ (index_corresponds meant index checked c k.index_ n))
        (λ i s' j t' p. (ap₂ ◌+◌ k.first p.0, p.1.steps))))
    handed_corresponds form (object (lvalue at (Handle first len) index checked) kind) c h f n =
        let k = object_kept o w form at first len index checked kind f in
        corresponds_gives_left (corresponds_gives_right (corresponds_less (place_from o w calls at (Handle first len) index checked k.index_ (index_corresponds (Handle first len) index checked c k.index_ n))
        (λ i s' j t' p. (ap₂ ◌+◌ k.first p.0, p.1.steps))))
    handed_corresponds form (object (lvalue at (Local first len k) index checked) kind) c h f n = absurd (false≢true h)
    handed_corresponds form (object (lvalue at (Cell first len k) index checked) kind) c h f n = absurd (false≢true h)
    handed_corresponds form (object (lvalue at (Mutex first len) index checked) kind) c h f n = absurd (false≢true h)
    handed_corresponds form (object (lvalue at (Cond first len) index checked) kind) c h f n = absurd (false≢true h)
    handed_corresponds form (object (lvalue at (Routine function) index checked) kind) c h f n = absurd (false≢true h)
    handed_corresponds form (object (lvalue at (Known name) index checked) kind) c h f n = absurd (false≢true h)
    handed_corresponds form (constant line value form_ kind) c h f n = absurd (false≢true h)
    handed_corresponds form (null line kind) c h f n = absurd (false≢true h)
    handed_corresponds form (text line kind) c h f n = absurd (false≢true h)
    handed_corresponds form (paren line e kind) c h f n = absurd (false≢true h)
    handed_corresponds form (unary line op e kind) c h f n = absurd (false≢true h)
    handed_corresponds form (cast line to e kind) c h f n = absurd (false≢true h)
    handed_corresponds form (binary line op a b kind) c h f n = absurd (false≢true h)
    handed_corresponds form (choose line a b d kind) c h f n = absurd (false≢true h)
    handed_corresponds form (assign line op to e kind) c h f n = absurd (false≢true h)
    handed_corresponds form (step line of up before kind) c h f n = absurd (false≢true h)
    handed_corresponds form (call line callee args kind) c h f n = absurd (false≢true h)
