-- A tree, and more behind it where the tree allows it and the next token begins it: what follows a target, a test or an `if`.
use Rattle.std.proofs.Common.{◌≡◌, ℕ, Bool, true, false, List, [], ◌∷◌, ◌++◌, refl, sym, ap, subst, ◌∙◌, inl, inr, append_assoc}
use Rattle.std.specs.Prelude.{if◌then◌else◌, ◌⊎◌, ◌||◌, ◌&&◌}
use Rattle.std.proofs.lemmas.Bool.{or_parts, and_parts, or_from}
use Rattle.std.proofs.Math.Bool.{and-false}
use Rattle.lz_expr.specs.Fronts.{Viable}
use Rattle.lz_expr.specs.Reading.{Outcome, gives, refused, Reader, and_then, ◌>>=◌, starts, Ends}
use Rattle.lz_expr.proofs.ExactLemmas.{Refused, Found, Exact, ends_append}
use Rattle.lz_expr.proofs.RowsLemmas.{Row}

-- The tree has more behind it.
pub record Extended {K X T : Type 0} (la : X → List K → Type 0) (q : X → Bool) (lb : X → T → List K → Type 0) (t : T) (u : List K) : Type 0 where
  pub start : X
  pub before : List K
  pub behind : List K
  pub same : u ≡ before ++ behind
  pub start_in : la start before
  pub may : q start ≡ true
  pub rest_in : lb start t behind

module _ {K X T : Type 0} (la : X → List K → Type 0) (ra : Reader K X) (ga : X → K → Bool) (a : Exact la ra ga) (alone : X → T) (q : X → Bool) (p : K → Bool)
    (lb : X → T → List K → Type 0) (rb : X → Reader K T) (gb : X → T → K → Bool) (b : (x : X) → q x ≡ true → Exact (lb x) (rb x) (gb x))
    (l : T → List K → Type 0) (g : T → K → Bool)
    (into : (x : X) (u : List K) → la x u → l (alone x) u)
    (more : (x : X) (t : T) (u v : List K) → la x u → q x ≡ true → lb x t v → l t (u ++ v))
    (split : (t : T) (u : List K) → l t u → ((x : X) × (alone x ≡ t) × la x u) ⊎ Extended la q lb t u)
    (heads : (x : X) (t : T) (c : K) (v : List K) → q x ≡ true → lb x t (c ∷ v) → p c ≡ true)
    (some : (x : X) (t : T) → q x ≡ true → lb x t [] → ⊥)
    (begins : (x : X) (c : K) → q x ≡ true → p c ≡ true → Viable (lb x) (c ∷ []))
    (apart : (x : X) (u : List K) (c : K) → la x u → q x ≡ true → p c ≡ true → ga x c ≡ false)
    (goes_alone : (x : X) (u : List K) (c : K) → la x u → g (alone x) c ≡ (ga x c || (q x && p c)))
    (goes_more : (x : X) (t : T) (v : List K) (c : K) → q x ≡ true → lb x t v → g t c ≡ gb x t c) where
  abbrev tail : X → Reader K T
  tail x ts = if q x && starts p ts then rb x ts else gives (alone x) ts

  abbrev pub extended : Reader K T
  extended = ra >>= tail

  ends_alone : (x : X) (u rest : List K) → la x u → Ends (g (alone x)) rest → Ends (ga x) rest
  ends_alone x u [] m e = tt
  ends_alone x u (c ∷ rest) m e = (or_parts (ga x c) (q x && p c) (sym (goes_alone x u c m) ∙ e)).0

  none_starts : (x : X) (u rest : List K) → la x u → Ends (g (alone x)) rest → (q x && starts p rest) ≡ false
  none_starts x u [] m e = and-false (q x)
  none_starts x u (c ∷ rest) m e = (or_parts (ga x c) (q x && p c) (sym (goes_alone x u c m) ∙ e)).1

  ends_apart : (x : X) (t : T) (u v rest : List K) → la x u → q x ≡ true → lb x t v → Ends (ga x) (v ++ rest)
  ends_apart x t u [] rest m h k = absurd (some x t h k)
  ends_apart x t u (c ∷ v) rest m h k = apart x u c m h (heads x t c v h k)

  started : (x : X) (t : T) (v rest : List K) → q x ≡ true → lb x t v → (q x && starts p (v ++ rest)) ≡ true
  started x t [] rest h k = absurd (some x t h k)
  started x t (c ∷ v) rest h k = rw (h, heads x t c v h k) refl

  ends_more : (x : X) (t : T) (v rest : List K) → q x ≡ true → lb x t v → Ends (g t) rest → Ends (gb x t) rest
  ends_more x t v [] h k e = tt
  ends_more x t v (c ∷ rest) h k e = sym (goes_more x t v c h k) ∙ e

  alone_complete : (x : X) (t : T) (u rest : List K) → alone x ≡ t → la x u → Ends (g t) rest → extended (u ++ rest) ≡ gives t rest
  alone_complete x t u rest is m e =
      let f : Ends (g (alone x)) rest = (let P : T → Type 0 = λ y. Ends (g y) rest in subst P (sym is) e) in
      rw (a.complete x u rest m (ends_alone x u rest m f)) (rw (none_starts x u rest m f) (ap (λ (y : T). gives y rest) is))

  more_complete : (t : T) (u rest : List K) → Extended la q lb t u → Ends (g t) rest → extended (u ++ rest) ≡ gives t rest
  more_complete t u rest x e =
      rw x.same (rw append_assoc (rw (a.complete x.start x.before (x.behind ++ rest) x.start_in (ends_apart x.start t x.before x.behind rest x.start_in x.may x.rest_in))
      (rw (started x.start t x.behind rest x.may x.rest_in) ((b x.start x.may).complete t x.behind rest x.rest_in (ends_more x.start t x.behind rest x.may x.rest_in e)))))

  ends_found : (x : X) (u left : List K) → la x u → Ends (ga x) left → (q x && starts p left) ≡ false → Ends (g (alone x)) left
  ends_found x u [] m e h = tt
  ends_found x u (c ∷ left) m e h = goes_alone x u c m ∙ or_from (ga x c) (q x && p c) e h

  ends_back : (x : X) (t : T) (v left : List K) → q x ≡ true → lb x t v → Ends (gb x t) left → Ends (g t) left
  ends_back x t v [] h k e = tt
  ends_back x t v (c ∷ left) h k e = goes_more x t v c h k ∙ e

  sound_by : (ts : List K) (x : X) (mid : List K) → Found la ga ts x mid → (s : Bool) → (q x && starts p mid) ≡ s → (t : T) (left : List K) → (if s then rb x mid else gives (alone x) mid) ≡ gives t left → Found l g ts t left
  sound_by ts x mid f true s t left h =
      let may = and_parts (q x) (starts p mid) s in
      let m = (b x may.0).sound mid t left h in
      record {
        read = f.read ++ m.read;
        same = f.same ∙ ap (λ (w : List K). f.read ++ w) m.same ∙ sym (append_assoc f.read m.read left);
        spells = more x t f.read m.read f.spells may.0 m.spells;
        ends = ends_back x t m.read left may.0 m.spells m.ends;
      }
  sound_by ts x mid f false s t left h =
      let found : Found l g ts (alone x) mid = record { read = f.read; same = f.same; spells = into x f.read f.spells; ends = ends_found x f.read mid f.spells f.ends s } in
      let t_is : alone x ≡ t = cc in
      let left_is : mid ≡ left = cc in
      subst (λ (w : List K). Found l g ts t w) left_is (subst (λ (y : T). Found l g ts y mid) t_is found)

  sound : (ts : List K) (o : Outcome K X) → ra ts ≡ o → (t : T) (left : List K) → and_then o tail ≡ gives t left → Found l g ts t left
  sound ts (gives x mid) e t left h = sound_by ts x mid (a.sound ts x mid e) (q x && starts p mid) refl t left h
  sound ts (refused n) e t left h = absurd cc

  refuses_by : (ts : List K) (x : X) (mid : List K) → Found la ga ts x mid → (s : Bool) → (q x && starts p mid) ≡ s → (n : ℕ) → (if s then rb x mid else gives (alone x) mid) ≡ refused n → Refused l extended ts n
  refuses_by ts x mid f false s n h = absurd cc
  refuses_by ts x mid f true s n h =
      let may = and_parts (q x) (starts p mid) s in
      let m = (b x may.0).refuses mid n h in
      record {
        read = f.read ++ m.read;
        left = m.left;
        same = f.same ∙ ap (λ (w : List K). f.read ++ w) m.same ∙ sym (append_assoc f.read m.read m.left);
        count = m.count;
        viable = (
          m.viable.0,
          m.viable.1,
          (let P : List K → Type 0 = λ w. l m.viable.0 w in
              subst P (sym (append_assoc f.read m.read m.viable.1)) (more x m.viable.0 f.read (m.read ++ m.viable.1) f.spells may.0 m.viable.2)),
        );
        local = λ c r s same.
            let here : Ends (ga x) (m.read ++ m.left) = (let P : List K → Type 0 = λ w. Ends (ga x) w in subst P m.same f.ends) in
            rw append_assoc (rw (a.complete x f.read (m.read ++ c ∷ s) f.spells (ends_append (ga x) m.read m.left c r s same here))
            (rw (same_start m.read m.left mid c r s m.same same x may.1 may.0) (m.local c r s same)));
      }
    where
      same_start : (read left mid : List K) (c : K) (r s : List K) → mid ≡ read ++ left → left ≡ c ∷ r → (x : X) → starts p mid ≡ true → q x ≡ true → (q x && starts p (read ++ c ∷ s)) ≡ true
      same_start [] left mid c r s same is x h k = let e : starts p mid ≡ p c = ap (λ (w : List K). starts p w) (same ∙ is) in rw (k, sym e ∙ h) refl
      same_start (d ∷ read) left mid c r s same is x h k = let e : starts p mid ≡ p d = ap (λ (w : List K). starts p w) same in rw (k, sym e ∙ h) refl

  refuses : (ts : List K) (o : Outcome K X) → ra ts ≡ o → (n : ℕ) → and_then o tail ≡ refused n → Refused l extended ts n
  refuses ts (gives x mid) e n h = refuses_by ts x mid (a.sound ts x mid e) (q x && starts p mid) refl n h
  refuses ts (refused i) e n h =
      let f = a.refuses ts i e in
      let i_is : i ≡ n = cc in
      record {
        read = f.read;
        left = f.left;
        same = f.same;
        count = sym i_is ∙ f.count;
        viable = (alone f.viable.0, f.viable.1, into f.viable.0 (f.read ++ f.viable.1) f.viable.2);
        local = λ c r s same. rw (f.local c r s same) refl;
      }

  complete_by : (t : T) (u rest : List K) → ((x : X) × (alone x ≡ t) × la x u) ⊎ Extended la q lb t u → Ends (g t) rest → extended (u ++ rest) ≡ gives t rest
  complete_by t u rest (inl k) e = alone_complete k.0 t u rest k.1 k.2 e
  complete_by t u rest (inr k) e = more_complete t u rest k e

  -- a token that goes on behind a tree goes on in what was read last, or begins more
  on_more : (x : X) (u : List K) (c : K) → la x u → q x ≡ true → Viable (lb x) (c ∷ []) → Viable l (u ++ c ∷ [])
  on_more x u c m h (t, s, k) = (t, s, (let P : List K → Type 0 = λ w. l t w in subst P (sym (append_assoc u (c ∷ []) s)) (more x t u (c ∷ s) m h k)))

  on_alone : (x : X) (u : List K) (c : K) → la x u → (r s : Bool) → ga x c ≡ r → (q x && p c) ≡ s → g (alone x) c ≡ true → Viable l (u ++ c ∷ [])
  on_alone x u c m true s is is₂ e = let v = a.on x u c m is in (alone v.0, v.1, into v.0 ((u ++ c ∷ []) ++ v.1) v.2)
  on_alone x u c m false true is is₂ e = let may = and_parts (q x) (p c) is₂ in on_more x u c m may.0 (begins x c may.0 may.1)
  on_alone x u c m false false is is₂ e = let ends : g (alone x) c ≡ false = goes_alone x u c m ∙ or_from (ga x c) (q x && p c) is is₂ in absurd cc

  on_by : (t : T) (u : List K) (c : K) → ((x : X) × (alone x ≡ t) × la x u) ⊎ Extended la q lb t u → g t c ≡ true → Viable l (u ++ c ∷ [])
  on_by t u c (inl (x, is, m)) e = on_alone x u c m (ga x c) (q x && p c) refl refl (ap (λ (y : T). g y c) is ∙ e)
  on_by t u c (inr x) e =
      let h : gb x.start t c ≡ true = sym (goes_more x.start t x.behind c x.may x.rest_in) ∙ e in
      on_behind x.start x.before x.behind u c x.same x.start_in x.may ((b x.start x.may).on t x.behind c x.rest_in h)
    where
      on_behind : (x : X) (v w u : List K) (c : K) → u ≡ v ++ w → la x v → q x ≡ true → Viable (lb x) (w ++ c ∷ []) → Viable l (u ++ c ∷ [])
      on_behind x v w u c same m h (t, s, k) =
          (t, s, (let P : List K → Type 0 = λ z. l t z in subst P (texts u v w s c same) (more x t v ((w ++ c ∷ []) ++ s) m h k)))
        where
          texts : (u v w s : List K) (c : K) → u ≡ v ++ w → v ++ ((w ++ c ∷ []) ++ s) ≡ (u ++ c ∷ []) ++ s
          texts u v w s c same = rw same (simp append_assoc)

  pub exact_tail : Exact l extended g
  exact_tail = record {
    sound = λ ts t left h. sound ts (ra ts) refl t left h;
    complete = λ t u rest m e. complete_by t u rest (split t u m) e;
    refuses = λ ts n h. refuses ts (ra ts) refl n h;
    on = λ t u c m e. on_by t u c (split t u m) e;
  }

-- The same of rows: what may stand behind is a row where the tree allows it.
module _ {K X T : Type 0} (la : X → List K → Type 0) (ra : Reader K X) (ga : X → K → Bool) (a : Row la ra ga) (alone : X → T) (q : X → Bool) (p : K → Bool)
    (lb : X → T → List K → Type 0) (rb : X → Reader K T) (gb : X → T → K → Bool) (b : (x : X) → q x ≡ true → Row (lb x) (rb x) (gb x))
    (l : T → List K → Type 0) (g : T → K → Bool)
    (into : (x : X) (u : List K) → la x u → l (alone x) u)
    (more : (x : X) (t : T) (u v : List K) → la x u → q x ≡ true → lb x t v → l t (u ++ v))
    (split : (t : T) (u : List K) → l t u → ((x : X) × (alone x ≡ t) × la x u) ⊎ Extended la q lb t u)
    (heads : (x : X) (t : T) (c : K) (v : List K) → q x ≡ true → lb x t (c ∷ v) → p c ≡ true)
    (begins : (x : X) (c : K) → q x ≡ true → p c ≡ true → Viable (lb x) (c ∷ []))
    (apart : (x : X) (u : List K) (c : K) → la x u → q x ≡ true → p c ≡ true → ga x c ≡ false)
    (goes_alone : (x : X) (u : List K) (c : K) → la x u → g (alone x) c ≡ (ga x c || (q x && p c)))
    (goes_more : (x : X) (t : T) (v : List K) (c : K) → q x ≡ true → lb x t v → g t c ≡ gb x t c) where
  no_text : (x : X) (u v : List K) → [] ≡ u ++ v → la x u → ⊥
  no_text x [] v same m = a.full x m
  no_text x (c ∷ u) v same m = absurd cc

  tail_full : (t : T) → ((x : X) × (alone x ≡ t) × la x []) ⊎ Extended la q lb t [] → ⊥
  tail_full t (inl (x, is, m)) = a.full x m
  tail_full t (inr x) = no_text x.start x.before x.behind x.same x.start_in

  pub row_tail : Row l (ra >>= (λ x ts. if q x && starts p ts then rb x ts else gives (alone x) ts)) g
  row_tail = record {
    exact = exact_tail la ra ga a.exact alone q p lb rb gb (λ x h. (b x h).exact) l g into more split heads (λ x t h m. (b x h).full t m) begins apart goes_alone goes_more;
    some = (alone a.some.0, a.some.1, into a.some.0 a.some.1 a.some.2);
    full = λ t m. tail_full t (split t [] m);
  }
