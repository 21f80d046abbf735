-- A call of a function of the file, inlined: its arguments, its body and its value.
use Rattle.std.proofs.Common.{◌≡◌, ◌≢◌, ℕ, zero, suc, ◌+◌, ◌<◌, ◌≤◌, ◌⊎◌, inl, inr, List, [], ◌∷◌, length, Option, Some, None, slice_index, if◌then◌else◌, refl, sym, ap, ◌∙◌, subst, arith, add-zero, le_trans}
use Rattle.std.proofs.lemmas.List.{get_or_past}
use Rattle.std.proofs.lemmas.Bool.{eq-eqb, ne_eqb}
use Rattle.lz_base.specs.declared.word.IntType.{IntType}
use Rattle.lz_model.specs.Behaviours.{Behaviour, ◌and_then◌, ◌gives◌}
use Rattle.lz_model.specs.CodeTraces.{Locals, Calls, no_calls, put, set_local, expression_trace, locs, passed, entered, came_back, in_frame}
use Rattle.lz_agree.proofs.CorrespondsLemmas.{corresponds_then, corresponds_quiet_tail}
use Rattle.lz_agree.proofs.QuietLemmas.{quiet_value, quiet_loc, quiet_tells, quiet_then}
use Rattle.lz_agree.specs.Correspondence.{Corresponds, Quiet}
use Rattle.lz_bound.specs.BoundedTraces.{Leaving, through, passes, stores, bounded_trace}
use Rattle.lz_unwind.specs.Pieces.{Inliner, temp, local}
use Rattle.lz_unwind.specs.Relation.{Valued, Near, Into, Inlined, Chain}

pub put_same : (i v : ℕ) (f : ℕ → ℕ) → put i v f i ≡ v
put_same i v f = ap (λ b. if b then v else f i) (eq-eqb i i refl)

pub put_other : (i v : ℕ) (f : ℕ → ℕ) (k : ℕ) → k ≢ i → put i v f k ≡ f k
put_other i v f k n = ap (λ b. if b then v else f k) (ne_eqb k i n)

module _ {S A B : Type 0} where
  pub quiet_gives : {P : Behaviour S A} {s : S} {a : A} {s' : S} {f : A → B} → Quiet P s a s' → Quiet (P gives f) s (f a) s'
  quiet_gives {f = f} q = record {
    opens = record { is = q.opens };
    can = (q.can.0, q.can.1, record { is = (_, q.can.2, refl) });
    cuts = λ acts e. q.cuts acts e.is;
    leaves = λ acts w e. q.leaves acts w e.is;
    ends = λ acts t v e. let k = q.ends acts t e.is.0 e.is.1 in (k.0, k.1, e.is.2 ∙ ap f k.2);
  }

-- ---- parts of a sequence

module _ {Back : Type 0} {S A C : Type 0} where
  pub corresponds_seq : {P : Behaviour S A} {s : S} {Q R : Behaviour Locals Leaving} {t : Locals} {Mid : A → S → Locals → Type 0} {next : A → Behaviour S C} {Post : C → S → Leaving → Locals → Type 0} →
      Corresponds Back P s Q t (λ a s' w t'. (w ≡ through) × Mid a s' t') → ((a : A) (s' : S) (t' : Locals) → Mid a s' t' → Corresponds Back (next a) s' R t' Post) →
      Corresponds Back (P and_then next) s (Q and_then λ w. passes w R) t Post
  corresponds_seq {R = R} {next = next} {Post = Post} first rest =
      corresponds_then first (λ a s' w t' m. subst (λ z. Corresponds Back (next a) s' (passes z R) t' Post) (sym m.0) (rest a s' t' m.1))

module _ {Back : Type 0} {S A : Type 0} where
  pub corresponds_seq_tail : {P : Behaviour S A} {s : S} {Q R : Behaviour Locals Leaving} {t : Locals} {Mid : A → S → Locals → Type 0} {Post : A → S → Leaving → Locals → Type 0} →
      Corresponds Back P s Q t (λ a s' w t'. (w ≡ through) × Mid a s' t') → ((a : A) (s' : S) (t' : Locals) → Mid a s' t' → (w : Leaving) × (t'' : Locals) × Quiet R t' w t'' × Post a s' w t'') →
      Corresponds Back P s (Q and_then λ w. passes w R) t Post
  corresponds_seq_tail {R = R} {Post = Post} first rest =
      corresponds_quiet_tail first (λ a s' w t' m. let r = rest a s' t' m.1 in (r.0, r.1, subst (λ z. Quiet (passes z R) t' r.0 r.1) (sym m.0) r.2, r.3))

pub quiet_temp : (x v : ℕ) (kind : IntType) {t : Locals} → t.frame x ≡ v → Quiet (expression_trace no_calls (temp x kind)) t v t
quiet_temp x v kind {t} e = quiet_then (quiet_then quiet_value (quiet_gives quiet_value)) (quiet_tells (ap t.frame (add-zero x) ∙ e))

-- a value into a local
pub quiet_stored : (from : IntType) (x v : ℕ) (kind : IntType) {t : Locals} → Quiet (stores from (Some (local x kind)) v) t through (set_local x v t)
quiet_stored from x v kind {t} = subst (λ (y : ℕ). Quiet (stores from (Some (local x kind)) v) t through (set_local y v t)) (add-zero x) (quiet_gives quiet_loc)

pub near_more : {o l m m' : ℕ} {s t : Locals} → m ≤ m' → Near o l m s t → Near o l m' s t
near_more g n = record { here = n.here; result = n.result; unused = λ k h. n.unused k (le_trans g h); handles = n.handles; room = omega (arith, n.room) }

-- a number is stored, which is the value if there is one
pub finish_as : {of : Option IntType} {o l x m m' : ℕ} {t s' t' : Locals} (v z : ℕ) → (Valued of → z ≡ v) → o + l < x → x < m → Chain o l m m' t s' t' → Into of o l x m m' t v s' (set_local x z t')
finish_as {of} {o} {l} {x} {m} {m'} {t} {s'} {t'} v z e a b c = record {
  near = record {
    here = λ i h. put_other x z t'.frame (o + i) (omega arith) ∙ c.near.here i h;
    result = put_other x z t'.frame (o + l) (omega arith) ∙ c.near.result;
    unused = λ k h. put_other x z t'.frame k (omega (arith, c.grows)) ∙ c.near.unused k h;
    handles = c.near.handles;
    room = c.near.room;
  };
  same = λ k h g n. put_other x z t'.frame k n ∙ c.same k h g;
  value = λ known. put_same x z t'.frame ∙ e known;
}

-- the value is stored
pub finish : {of : Option IntType} {o l x m m' : ℕ} {t s' t' : Locals} (v : ℕ) → o + l < x → x < m → Chain o l m m' t s' t' → Into of o l x m m' t v s' (set_local x v t')
finish v a b c = finish_as v v (λ known. refl) a b c

-- nothing is stored where there is no value
pub finish_none : {o l x m m' : ℕ} {t s' t' : Locals} (v : ℕ) → Chain o l m m' t s' t' → Into None o l x m m' t v s' t'
finish_none v c = record { near = c.near; same = λ k h g n. c.same k h g; value = λ known. absurd known }

pub quiet_locs : (line : ℕ) (values : List ℕ) {s : Locals} → Quiet (locs line values) s zero s
quiet_locs line [] = quiet_value
quiet_locs line (v ∷ values) = quiet_then quiet_loc (quiet_locs line values)

-- with two kinds of one width, arguments are passed as they are
pub passed_same : (froms tos : List IntType) (vs : List ℕ) → passed froms tos vs ≡ vs
passed_same [] tos vs = refl
passed_same (from ∷ froms) [] vs = refl
passed_same (from ∷ froms) (to ∷ tos) [] = refl
passed_same (from ∷ froms) (to ∷ tos) (v ∷ vs) = ap (λ (xs : List ℕ). v ∷ xs) (passed_same froms tos vs)

module _ {Back : Type 0} {A B : Type 0} where
  pub corresponds_in_frame : {P : Behaviour Locals A} {values : List ℕ} {s : Locals} {Q : Behaviour Locals B} {t : Locals} {Post : A → Locals → B → Locals → Type 0} →
      Corresponds Back P (entered values s) Q t (λ a inner b t'. Post a (came_back s inner) b t') → Corresponds Back (in_frame values P) s Q t Post
  corresponds_in_frame {s = s} {Post = Post} h = record {
    there = record {
      cuts = λ acts e. h.there.cuts acts e.is;
      leaves = λ acts w e. h.there.leaves acts w e.is;
      ends = λ acts after value e. let g = h.there.ends acts e.is.0 value e.is.1 in (g.0, g.1, g.2, g.3, g.4, subst (λ z. Post value z g.2 g.1) (sym e.is.2) g.5);
    };
    back = λ k. record {
      cuts = λ acts e. let g = (h.back k).cuts acts e in (g.0, g.1, record { is = g.2 });
      leaves = λ acts w e. let g = (h.back k).leaves acts w e in (g.0, g.1, record { is = g.2 });
      ends = λ acts after value e. let g = (h.back k).ends acts after value e in (g.0, came_back s g.1, g.2, g.3, record { is = (g.1, g.4, refl) }, g.5);
    };
    opens = h.opens;
    lasts = λ acts after value e. record { is = h.lasts acts e.is.0 value e.is.1 };
  }

-- ---- arguments

-- the arguments are in x, x + 1 and so on
pub record Passed (o l x m m' : ℕ) (t : Locals) (n : ℕ) (vs : List ℕ) (s' t' : Locals) : Type 0 where
  pub near : Near o l m' s' t'
  pub all : length vs ≡ n
  pub values : (i : ℕ) → i < n → t'.frame (x + i) ≡ slice_index vs i
  pub same : (k : ℕ) → k < m → (k < o) ⊎ (o + l < k) → (k < x) ⊎ (x + n ≤ k) → t'.frame k ≡ t.frame k

pub first_and_rest : {of : Option IntType} {o l x m m1 m2 n : ℕ} {t s1 t1 s2 t2 : Locals} {v : ℕ} {vs : List ℕ} → Valued of → o + l < x → suc x + n ≤ m → m ≤ m1 →
    Into of o l x m m1 t v s1 t1 → Passed o l (suc x) m1 m2 t1 n vs s2 t2 → Passed o l x m m2 t (suc n) (v ∷ vs) s2 t2
first_and_rest {of} {o} {l} {x} {m} {m1} {m2} {n} {t} {s1} {t1} {s2} {t2} {v} {vs} known a b g h1 h2 = record {
  near = h2.near;
  all = ap suc h2.all;
  values = values;
  same = λ k p q r. h2.same k (omega arith) q (elim r [ inl z ↦ inl (omega arith) | inr z ↦ inr (omega arith) ]) ∙ h1.same k p q (elim r [ inl z ↦ (λ e. omega arith) | inr z ↦ (λ e. omega arith) ]);
}
  where
    values : (i : ℕ) → i < suc n → t2.frame (x + i) ≡ slice_index (v ∷ vs) i
    values zero h = ap t2.frame (add-zero x) ∙ h2.same x (omega arith) (inr a) (inl (omega arith)) ∙ h1.value known
    values (suc j) h = let e : x + suc j ≡ suc x + j = omega arith in ap t2.frame e ∙ h2.values j (omega arith)

-- the callee's locals as it begins
pub callee_near : {o l m m' n z : ℕ} {t s1 t1 s : Locals} {vs : List ℕ} → Near o l m s t → n ≤ z → suc (m + z) ≤ m' →
    Passed o l m (suc (m + z)) m' t n vs s1 t1 → Near m z m' (entered vs s1) t1
callee_near {o} {l} {m} {m'} {n} {z} {t} {s1} {t1} {s} {vs} near c g h = record {
  here = λ i b. elim (dec i) [ inl p ↦ h.values i p | inr p ↦ rest i b p ];
  result = h.same (m + z) (omega arith) (inr (omega (arith, near.room))) (inr (omega arith)) ∙ near.unused (m + z) (omega arith);
  unused = h.near.unused;
  handles = h.near.handles;
  room = omega arith;
}
  where
    dec : (i : ℕ) → (i < n) ⊎ (n ≤ i)
    dec i = grind arith

    rest : (i : ℕ) → i < z → n ≤ i → t1.frame (m + i) ≡ slice_index vs i
    rest i b p = h.same (m + i) (omega arith) (inr (omega (arith, near.room))) (inr (omega arith)) ∙ near.unused (m + i) (omega arith) ∙ sym (get_or_past vs i 0 (omega (arith, h.all)))

-- after the callee
pub record Called (o l m m' r : ℕ) (t : Locals) (v : ℕ) (s' t' : Locals) : Type 0 where
  pub chain : Chain o l m m' t s' t'
  pub value : t'.frame r ≡ v

pub called : {o l m m' m'' n z : ℕ} {t s s1 t1 inner t2 : Locals} {vs : List ℕ} {v : ℕ} → Near o l m s t → suc (m + z) ≤ m' → m' ≤ m'' →
    Passed o l m (suc (m + z)) m' t n vs s1 t1 → Inlined m z m' m'' t1 v inner t2 → Called o l m m'' (m + z) t v (came_back s1 inner) t2
called {o} {l} {m} near g g' h1 h2 = record {
  chain = record {
    near = record {
      here = λ i b. h2.kept.same (o + i) (omega (arith, near.room)) (inl (omega (arith, near.room))) ∙ h1.near.here i b;
      result = h2.kept.same (o + l) (omega (arith, near.room)) (inl near.room) ∙ h1.near.result;
      unused = h2.unused;
      handles = h2.handles;
      room = omega (arith, near.room);
    };
    same = λ k p q. h2.kept.same k (omega arith) (inl p) ∙ h1.same k (omega arith) q (inl p);
    grows = omega arith;
  };
  value = h2.value;
}

-- what is known of the calls
pub record CallsCorrespond (Back : Type 0) (ok : ℕ → Type 0) (size : ℕ → ℕ) (calls : Calls) (inline : Inliner) : Type 0 where
  pub grows : (f o m : ℕ) → m ≤ (inline f o m).next
  pub correspond : (f o m : ℕ) (s t : Locals) → ok f → Near o (size f) m s t →
      Corresponds Back (calls.does f) s (bounded_trace (inline f o m).tree) t (λ v s' w t'. (w ≡ through) × Inlined o (size f) m (inline f o m).next t v s' t')
