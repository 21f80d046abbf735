-- A tree of one token that grows by each further token that it grows by, such as a type by its words.
use Rattle.std.proofs.Common.{◌≡◌, ℕ, zero, suc, ◌+◌, ◌<◌, ◌≤◌, Bool, true, false, List, [], ◌∷◌, ◌++◌, length, Option, Some, None, refl, sym, ap, subst, ◌∙◌, inl, inr, append_assoc, append-nil, arith, length-append}
use Rattle.std.specs.Prelude.{◌⊎◌}
use Rattle.lz_expr.specs.Fronts.{Viable}
use Rattle.lz_expr.specs.Reading.{gives, refused, Reader, and_then, ◌>>=◌, shown, token, shows, grown, Ends}
use Rattle.lz_expr.proofs.ExactLemmas.{Refused, Found}
use Rattle.lz_expr.proofs.RowsLemmas.{Row}

-- The tree is that of one token.
pub record Started {K T : Type 0} (first : K → Option T) (t : T) (u : List K) : Type 0 where
  pub at : K
  pub same : u ≡ at ∷ []
  pub shows : first at ≡ Some t

-- The tree grew by its last token.
pub record Larger {K T : Type 0} (grow : T → K → Option T) (l : T → List K → Type 0) (t : T) (u : List K) : Type 0 where
  pub smaller : T
  pub before : List K
  pub at : K
  pub same : u ≡ before ++ at ∷ []
  pub in_smaller : l smaller before
  pub shows : grow smaller at ≡ Some t

module _ {K T : Type 0} (first : K → Option T) (grow : T → K → Option T) (rank : T → ℕ) (top : ℕ) (l : T → List K → Type 0)
    (into_first : (t : T) (c : K) → first c ≡ Some t → l t (c ∷ []))
    (into_grow : (t s : T) (u : List K) (c : K) → l t u → grow t c ≡ Some s → l s (u ++ c ∷ []))
    (split : (t : T) (u : List K) → l t u → Started first t u ⊎ Larger grow l t u)
    (less : (t s : T) (c : K) → grow t c ≡ Some s → rank s < rank t)
    (low : (t : T) (c : K) → first c ≡ Some t → rank t ≤ top)
    (c₀ : K) (t₀ : T) (shows₀ : first c₀ ≡ Some t₀) where
  abbrev pub grown_goes : T → K → Bool
  grown_goes t c = shows (grow t c)

  abbrev pub grown_from_first : Reader K T
  grown_from_first = token first >>= grown grow top

  record Reached (t : T) (u rest : List K) : Type 0 where
    turns : ℕ
    enough : rank t ≤ turns
    run : grown_from_first (u ++ rest) ≡ grown grow turns t rest

  reach_first : (t : T) (u rest : List K) → Started first t u → Reached t u rest
  unfolding token
  reach_first t u rest s = record { turns = top; enough = low t s.at s.shows; run = rw s.same (rw s.shows refl) }

  some_turn : (n : ℕ) → 0 < n → (m : ℕ) × (n ≡ suc m)
  some_turn zero h = absurd (omega arith)
  some_turn (suc m) h = (m, refl)

  grow_once : (n : ℕ) (t s : T) (c : K) (rest : List K) → grow t c ≡ Some s → grown grow (suc n) t (c ∷ rest) ≡ grown grow n s rest
  unfolding grown token
  grow_once n t s c rest e = rw e refl

  reach_larger : (t : T) (u rest : List K) (g : Larger grow l t u) → Reached g.smaller g.before (g.at ∷ rest) → Reached t u rest
  reach_larger t u rest g r =
      let falls = less g.smaller t g.at g.shows in
      let k = some_turn r.turns (let e = r.enough in omega arith) in
      let texts : u ++ rest ≡ g.before ++ g.at ∷ rest = ap (λ (w : List K). w ++ rest) g.same ∙ append_assoc g.before (g.at ∷ []) rest in
      let turns_are : r.turns ≡ suc k.0 = k.1 in
      record {
        turns = k.0;
        enough = (let e = r.enough in omega arith);
        run = ap grown_from_first texts ∙ r.run ∙ ap (λ (i : ℕ). grown grow i g.smaller (g.at ∷ rest)) k.1 ∙ grow_once k.0 g.smaller t g.at rest g.shows;
      }

  reach : (n : ℕ) (t : T) (u rest : List K) → length u ≤ n → l t u → Reached t u rest
  reach zero t u rest h m = elim (split t u m) [
    | inl s ↦ reach_first t u rest s
    | inr g ↦ (let total : length u ≡ length g.before + 1 = ap length g.same ∙ length-append g.before (g.at ∷ []) in absurd (omega arith))
  ]
  reach (suc n) t u rest h m = elim (split t u m) [
    | inl s ↦ reach_first t u rest s
    | inr g ↦ (let total : length u ≡ length g.before + 1 = ap length g.same ∙ length-append g.before (g.at ∷ []) in
        reach_larger t u rest g (reach n g.smaller g.before (g.at ∷ rest) (omega arith) g.in_smaller))
  ]

  stops : (n : ℕ) (t : T) (rest : List K) → Ends (grown_goes t) rest → grown grow n t rest ≡ gives t rest
  unfolding grown
  stops zero t rest e = refl
  stops (suc n) t [] e = refl
  stops (suc n) t (c ∷ rest) e = rw e refl

  grown_complete : (t : T) (u rest : List K) → l t u → Ends (grown_goes t) rest → grown_from_first (u ++ rest) ≡ gives t rest
  grown_complete t u rest m e = let r = reach (length u) t u rest (omega arith) m in r.run ∙ stops r.turns t rest e

  -- ---- what was read

  ended : (ts : List K) (t : T) (u left : List K) → ts ≡ u ++ left → l t u → Ends (grown_goes t) left → (x : T) (rest : List K) → gives t left ≡ gives x rest → Found l grown_goes ts x rest
  ended ts t u left same m e x rest h =
      let found : Found l grown_goes ts t left = record { read = u; same = same; spells = m; ends = e } in
      let t_is : t ≡ x = cc in
      let left_is : left ≡ rest = cc in
      subst (λ (w : List K). Found l grown_goes ts x w) left_is (subst (λ (y : T). Found l grown_goes ts y left) t_is found)

  none_grows : (t : T) (left : List K) → rank t ≤ 0 → Ends (grown_goes t) left
  none_grows t [] h = tt
  none_grows t (c ∷ left) h = by_shown (grow t c) refl
    where
      by_shown : (o : Option T) → grow t c ≡ o → shows (grow t c) ≡ false
      by_shown None e = rw e refl
      by_shown (Some s) e = let falls = less t s c e in absurd (omega arith)

  abbrev Grows : ℕ → List K → Type 0
  Grows n ts = (t : T) (u left : List K) → ts ≡ u ++ left → l t u → rank t ≤ n → (x : T) (rest : List K) → grown grow n t left ≡ gives x rest → Found l grown_goes ts x rest

  grows_by : (n : ℕ) (ts : List K) → Grows n ts → (t : T) (u : List K) (c : K) (left : List K) → ts ≡ u ++ c ∷ left → l t u → rank t ≤ suc n → (o : Option T) → grow t c ≡ o → (x : T) (rest : List K)
      → grown grow (suc n) t (c ∷ left) ≡ gives x rest → Found l grown_goes ts x rest
  unfolding grown token
  grows_by n ts again t u c left same m h None e x rest k =
      let k₂ : gives t (c ∷ left) ≡ gives x rest = rw e at k in ended ts t u (c ∷ left) same m (rw e refl) x rest k₂
  grows_by n ts again t u c left same m h (Some s) e x rest k =
      let falls = less t s c e in
      again s (u ++ c ∷ []) left (same ∙ sym (append_assoc u (c ∷ []) left)) (into_grow t s u c m e) (omega arith) x rest (sym (grow_once n t s c left e) ∙ k)

  grows : (n : ℕ) (ts : List K) → Grows n ts
  unfolding grown
  grows zero ts t u left same m h x rest k = ended ts t u left same m (none_grows t left h) x rest k
  grows (suc n) ts t u [] same m h x rest k = ended ts t u [] same m tt x rest k
  grows (suc n) ts t u (c ∷ left) same m h x rest k = grows_by n ts (grows n ts) t u c left same m h (grow t c) refl x rest k

  grown_sound : (ts : List K) (t : T) (left : List K) → grown_from_first ts ≡ gives t left → Found l grown_goes ts t left
  unfolding token
  grown_sound [] t left h = absurd cc
  grown_sound (c ∷ ts) t left h = by_shown (first c) refl h
    where
      by_shown : (o : Option T) → first c ≡ o → and_then (shown c ts o) (grown grow top) ≡ gives t left → Found l grown_goes (c ∷ ts) t left
      by_shown None e h = absurd cc
      by_shown (Some s) e h = grows top (c ∷ ts) s (c ∷ []) ts refl (into_first s c e) (low s c e) t left h

  -- ---- what was refused: the first token

  never_by : (n : ℕ) (t : T) (c : K) (ts : List K) (i : ℕ) → ((s : T) → grown grow n s ts ≡ refused i → ⊥) → (o : Option T) → grow t c ≡ o → grown grow (suc n) t (c ∷ ts) ≡ refused i → ⊥
  unfolding grown token
  never_by n t c ts i again None e h = let k : gives t (c ∷ ts) ≡ refused i = rw e at h in cc
  never_by n t c ts i again (Some s) e h = let k : grown grow n s ts ≡ refused i = rw e at h in again s k

  never : (n : ℕ) (t : T) (ts : List K) (i : ℕ) → grown grow n t ts ≡ refused i → ⊥
  unfolding grown
  never zero t ts i h = cc
  never (suc n) t [] i h = cc
  never (suc n) t (c ∷ ts) i h = never_by n t c ts i (λ s k. never n s ts i k) (grow t c) refl h

  grown_refuses : (ts : List K) (i : ℕ) → grown_from_first ts ≡ refused i → Refused l grown_from_first ts i
  unfolding token
  grown_refuses [] i h = record { read = []; left = []; same = refl; count = cc; viable = (t₀, c₀ ∷ [], into_first t₀ c₀ shows₀); local = λ c r s is. absurd cc }
  grown_refuses (c ∷ ts) i h = by_shown (first c) refl h
    where
      by_shown : (o : Option T) → first c ≡ o → and_then (shown c ts o) (grown grow top) ≡ refused i → Refused l grown_from_first (c ∷ ts) i
      by_shown None e h =
          record { read = []; left = c ∷ ts; same = refl; count = cc; viable = (t₀, c₀ ∷ [], into_first t₀ c₀ shows₀); local = λ d r s is. let f : c ≡ d = cc in rw (← f) (rw e refl) }
      by_shown (Some s) e h = absurd (never top s ts i h)

  -- ---- what goes on

  grown_on : (t : T) (u : List K) (c : K) → l t u → grown_goes t c ≡ true → Viable l (u ++ c ∷ [])
  grown_on t u c m e = by_shown (grow t c) refl
    where
      by_shown : (o : Option T) → grow t c ≡ o → Viable l (u ++ c ∷ [])
      by_shown None f = let k : false ≡ true = rw f at e in absurd cc
      by_shown (Some s) f = (s, [], (let P : List K → Type 0 = λ w. l s w in subst P (sym (append-nil (u ++ c ∷ []))) (into_grow t s u c m f)))

  no_text : (u : List K) (c : K) → [] ≡ u ++ c ∷ [] → ⊥
  no_text [] c same = cc
  no_text (d ∷ u) c same = cc

  pub row_grown : Row l grown_from_first grown_goes
  row_grown = record {
    exact = record { sound = grown_sound; complete = grown_complete; refuses = grown_refuses; on = grown_on };
    some = (t₀, c₀ ∷ [], into_first t₀ c₀ shows₀);
    full = λ t m. elim (split t [] m) [ inl s ↦ (let e = s.same in cc) | inr g ↦ no_text g.before g.at g.same ];
  }
