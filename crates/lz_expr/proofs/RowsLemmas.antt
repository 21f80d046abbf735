-- Rows of tokens and parts: what is read last makes the tree.
use Rattle.std.proofs.Common.{◌≡◌, ℕ, Bool, true, false, List, [], ◌∷◌, ◌++◌, Option, Some, refl, sym, ap, subst, ◌∙◌, inl, inr}
use Rattle.std.specs.Prelude.{◌⊎◌}
use Rattle.lz_tree.specs.Languages.{◌⊙◌, showing}
use Rattle.lz_expr.specs.Fronts.{Viable}
use Rattle.lz_expr.specs.Reading.{Outcome, gives, refused, Reader, and_then, ◌>>=◌, pure, token, choice, Ends}
use Rattle.lz_expr.proofs.ExactLemmas.{Refused, Found, Exact, exact_token, exact_bind, exact_map, exact_choice}

-- A token in front of a row that isn't empty.
module _ {K X T : Type 0} (show : K → Option X) (c₀ : K) (x₀ : X) (shows : show c₀ ≡ Some x₀) (lk : X → T → List K → Type 0) (rk : X → Reader K T) (g : T → K → Bool)
    (k : (x : X) → Exact (lk x) (rk x) g)
    (some : (x : X) → Viable (lk x) [])
    (full : (x : X) (t : T) → lk x t [] → ⊥) where
  abbrev pub behind_token : T → List K → Type 0
  behind_token t ts = (x : X) × (showing show x ⊙ lk x t) ts

  not_empty : (x : X) (t : T) (v : List K) → lk x t v → v ≡ [] → ⊥
  not_empty x t v m e = let P : List K → Type 0 = λ w. lk x t w in full x t (subst P e m)

  pub exact_behind_token : Exact behind_token (token show >>= rk) g
  exact_behind_token = exact_bind (showing show) (token show) (λ _ _. false) lk rk (λ _. g) (exact_token show c₀ x₀ shows) k g
      (λ x u m. some x) (λ x t u c s m n. refl) (λ x t v c m e. e) (λ x t c m e. refl) (λ x t c v m e f. e)

-- A part in front of a row that isn't empty, whose first token can't continue the part.
module _ {K X T : Type 0} (la : X → List K → Type 0) (ra : Reader K X) (ga : X → K → Bool) (lk : X → T → List K → Type 0) (rk : X → Reader K T) (g : T → K → Bool)
    (a : Exact la ra ga) (k : (x : X) → Exact (lk x) (rk x) g)
    (some : (x : X) → Viable (lk x) [])
    (full : (x : X) (t : T) → lk x t [] → ⊥)
    (apart : (x : X) (t : T) (c : K) (s : List K) → lk x t (c ∷ s) → ga x c ≡ false) where
  abbrev pub behind_part : T → List K → Type 0
  behind_part t ts = (x : X) × (la x ⊙ lk x t) ts

  pub exact_behind_part : Exact behind_part (ra >>= rk) g
  exact_behind_part = exact_bind la ra ga lk rk (λ _. g) a k g
      (λ x u m. some x) (λ x t u c s m n. apart x t c s n) (λ x t v c m e. e) (λ x t c m e. absurd (full x t m)) (λ x t c v m e f. e)

-- ---- the same answers by another reader

module _ {K T : Type 0} (l : T → List K → Type 0) (run other : Reader K T) (g : T → K → Bool) (a : Exact l run g) (same : (ts : List K) → run ts ≡ other ts) where
  pub exact_same : Exact l other g
  exact_same = record {
    sound = λ ts t left h. a.sound ts t left (same ts ∙ h);
    complete = λ t u rest m e. sym (same (u ++ rest)) ∙ a.complete t u rest m e;
    refuses = λ ts n h. again ts n (a.refuses ts n (same ts ∙ h));
    on = a.on;
  }
    where
      again : (ts : List K) (n : ℕ) → Refused l run ts n → Refused l other ts n
      again ts n f = record { read = f.read; left = f.left; same = f.same; count = f.count; viable = f.viable; local = λ c r s is. sym (same (f.read ++ c ∷ s)) ∙ f.local c r s is }

-- What comes behind a part that was read to its end need only agree where the part ended.
module _ {K X T : Type 0} (la : X → List K → Type 0) (ra : Reader K X) (ga : X → K → Bool) (a : Exact la ra ga) (k other : X → Reader K T)
    (same : (x : X) (mid : List K) → Ends (ga x) mid → k x mid ≡ other x mid) where
  agree_by : (ts : List K) (o : Outcome K X) → ra ts ≡ o → and_then o k ≡ and_then o other
  agree_by ts (gives x mid) e = let f = a.sound ts x mid e in same x mid f.ends
  agree_by ts (refused n) e = refl

  pub agree : (ts : List K) → (ra >>= k) ts ≡ (ra >>= other) ts
  agree ts = agree_by ts (ra ts) refl

-- ---- rows: exact readers of texts that exist and aren't empty

pub record Row {K T : Type 0} (l : T → List K → Type 0) (run : Reader K T) (g : T → K → Bool) : Type 0 where
  pub exact : Exact l run g
  pub some : Viable l []
  pub full : (t : T) → l t [] → ⊥

-- trees that are made of a part
abbrev pub made : {K X T : Type 0} → (X → T) → (X → List K → Type 0) → T → List K → Type 0
made {X = X} f l t u = (x : X) × (f x ≡ t) × l x u

abbrev pub along : {K X T : Type 0} → (X → List K → Type 0) → (X → T → List K → Type 0) → T → List K → Type 0
along {X = X} l k t ts = (x : X) × (l x ⊙ k x t) ts

module _ {K X T : Type 0} (l : X → List K → Type 0) (run : Reader K X) (gx : X → K → Bool) (f : X → T) (g : T → K → Bool) where
  -- the last part of a row
  pub row_last : Row l run gx → ((x : X) (u : List K) (c : K) → l x u → g (f x) c ≡ gx x c) → Row (made f l) (run >>= (λ x. pure (f x))) g
  row_last r goes = record {
    exact = exact_map l run gx r.exact f (made f l) g (λ x u m. (x, refl, m)) (λ t u m. m) goes;
    some = (f r.some.0, r.some.1, (r.some.0, refl, r.some.2));
    full = λ t m. r.full m.0 m.2;
  }

module _ {K X T : Type 0} (show : K → Option X) (k : X → T → List K → Type 0) (run : X → Reader K T) (g : T → K → Bool) where
  token_full : (t : T) → along (showing show) k t [] → ⊥
  token_full t (x, (u, v, same, (c, one, s), m)) = let e : [] ≡ c ∷ v = same ∙ ap (λ (w : List K). w ++ v) one in absurd cc

  -- a token in front
  pub row_token : (c₀ : K) (x₀ : X) → show c₀ ≡ Some x₀ → ((x : X) → Row (k x) (run x) g) → Row (along (showing show) k) (token show >>= run) g
  row_token c₀ x₀ shows r = record {
    exact = exact_behind_token show c₀ x₀ shows k run g (λ x. (r x).exact) (λ x. (r x).some) (λ x t m. (r x).full t m);
    some = (let s = (r x₀).some in (s.0, c₀ ∷ s.1, (x₀, (c₀ ∷ [], s.1, refl, (c₀, refl, shows), s.2))));
    full = token_full;
  }

module _ {K X Y T : Type 0} (l : X → List K → Type 0) (part : Reader K X) (gx : X → K → Bool) (show : K → Option Y) (k : X → Y → T → List K → Type 0) (run : X → Y → Reader K T) (g : T → K → Bool) where
  part_full : (r : Row l part gx) (t : T) → along l (λ x. along (showing show) (k x)) t [] → ⊥
  part_full r t (x, (u, v, same, m, n)) = go u v same m
    where
      go : (u v : List K) → [] ≡ u ++ v → l x u → ⊥
      go [] v same m = r.full x m
      go (c ∷ u) v same m = absurd cc

  -- a part and a token that can't continue it, in front
  pub row_part : Row l part gx → (c₀ : K) (y₀ : Y) → show c₀ ≡ Some y₀ → ((x : X) (c : K) (y : Y) → show c ≡ Some y → gx x c ≡ false) → ((x : X) (y : Y) → Row (k x y) (run x y) g)
      → Row (along l (λ x. along (showing show) (k x))) (part >>= (λ x. token show >>= run x)) g
  row_part r c₀ y₀ shows apart rest =
      let behind = λ (x : X). row_token show (k x) (run x) g c₀ y₀ shows (rest x) in
      record {
        exact = exact_behind_part l part gx (λ x. along (showing show) (k x)) (λ x. token show >>= run x) g r.exact (λ x. (behind x).exact) (λ x. (behind x).some) (λ x t m. (behind x).full t m)
            (λ x t c s m. ends x c m);
        some = (let a = r.some in let s = (behind a.0).some in (s.0, a.1 ++ s.1, (a.0, (a.1, s.1, refl, a.2, s.2))));
        full = part_full r;
      }
    where
      ends : {t : T} {s : List K} (x : X) (c : K) → along (showing show) (k x) t (c ∷ s) → gx x c ≡ false
      ends {s = s} x c (y, (u, v, same, (d, one, shown), m)) =
          let e : c ∷ s ≡ d ∷ v = same ∙ ap (λ (w : List K). w ++ v) one in
          let is : d ≡ c = cc in
          apart x c y (let P : K → Type 0 = λ z. show z ≡ Some y in subst P is shown)

-- A row of one token.
pub row_one : {K T : Type 0} (show : K → Option T) (c₀ : K) (t₀ : T) → show c₀ ≡ Some t₀ → Row (showing show) (token show) (λ _ _. false)
row_one show c₀ t₀ shows = record {
  exact = exact_token show c₀ t₀ shows;
  some = (t₀, c₀ ∷ [], (c₀, refl, shows));
  full = λ t m. let e = m.1 in absurd cc;
}

-- what a row that begins with a token begins with
pub heads_token : {K X T : Type 0} (show : K → Option X) (k : X → T → List K → Type 0) (t : T) (c : K) (u : List K) → along (showing show) k t (c ∷ u) → (x : X) × (show c ≡ Some x)
heads_token {K = K} show k t c u (x, (v, w, same, (d, one, shown), m)) =
    let e : c ∷ u ≡ d ∷ w = same ∙ ap (λ (z : List K). z ++ w) one in
    let is : d ≡ c = cc in
    (x, (let P : K → Type 0 = λ z. show z ≡ Some x in subst P is shown))

-- and what one token of a text is
pub heads_one : {K X : Type 0} (show : K → Option X) (x : X) (c : K) (u : List K) → showing show x (c ∷ u) → show c ≡ Some x
heads_one {K = K} show x c u (d, one, shown) = let is : d ≡ c = cc in let P : K → Type 0 = λ z. show z ≡ Some x in subst P is shown

pub heads_made : {K X T : Type 0} (f : X → T) (show : K → Option X) (t : T) (c : K) (u : List K) → made f (showing show) t (c ∷ u) → (x : X) × (show c ≡ Some x)
heads_made f show t c u (x, is, m) = (x, heads_one show x c u m)

-- a row that begins with a token is begun by each token that shows a value
pub begins_token : {K X T : Type 0} (show : K → Option X) (k : X → T → List K → Type 0) (c : K) (x : X) → show c ≡ Some x → Viable (k x) [] → Viable (along (showing show) k) (c ∷ [])
begins_token show k c x shown s = (s.0, s.1, (x, (c ∷ [], s.1, refl, (c, refl, shown), s.2)))

pub begins_made : {K X T : Type 0} (f : X → T) (show : K → Option X) (c : K) (x : X) → show c ≡ Some x → Viable (made f (showing show)) (c ∷ [])
begins_made f show c x shown = (f x, [], (x, refl, (c, refl, shown)))

-- A part, and a row behind it that can't continue the part.
module _ {K X T : Type 0} (l : X → List K → Type 0) (part : Reader K X) (gx : X → K → Bool) (k : X → T → List K → Type 0) (run : X → Reader K T) (g : T → K → Bool) where
  then_full : Row l part gx → (t : T) → along l k t [] → ⊥
  then_full r t (x, (u, v, same, m, n)) = go u v same m
    where
      go : (u v : List K) → [] ≡ u ++ v → l x u → ⊥
      go [] v same m = r.full x m
      go (c ∷ u) v same m = absurd cc

  pub row_then : Row l part gx → ((x : X) → Row (k x) (run x) g) → ((x : X) (t : T) (c : K) (s : List K) → k x t (c ∷ s) → gx x c ≡ false) → Row (along l k) (part >>= run) g
  row_then r rest apart = record {
    exact = exact_behind_part l part gx k run g r.exact (λ x. (rest x).exact) (λ x. (rest x).some) (λ x t m. (rest x).full t m) apart;
    some = (let a = r.some in let s = (rest a.0).some in (s.0, a.1 ++ s.1, (a.0, (a.1, s.1, refl, a.2, s.2))));
    full = then_full r;
  }

-- A part that may be empty, and a row behind it that can't continue the part.
module _ {K X T : Type 0} (l : X → List K → Type 0) (part : Reader K X) (gx : X → K → Bool) (k : X → T → List K → Type 0) (run : X → Reader K T) (g : T → K → Bool) where
  behind_full : ((x : X) → Row (k x) (run x) g) → (t : T) → along l k t [] → ⊥
  behind_full rest t (x, (u, v, same, m, n)) = go u v same n
    where
      go : (u v : List K) → [] ≡ u ++ v → k x t v → ⊥
      go [] [] same n = (rest x).full t n
      go [] (c ∷ v) same n = absurd cc
      go (c ∷ u) v same n = absurd cc

  pub row_behind : Exact l part gx → Viable l [] → ((x : X) → Row (k x) (run x) g) → ((x : X) (t : T) (c : K) (s : List K) → k x t (c ∷ s) → gx x c ≡ false) → Row (along l k) (part >>= run) g
  row_behind a some rest apart = record {
    exact = exact_behind_part l part gx k run g a (λ x. (rest x).exact) (λ x. (rest x).some) (λ x t m. (rest x).full t m) apart;
    some = (let s = (rest some.0).some in (s.0, some.1 ++ s.1, (some.0, (some.1, s.1, refl, some.2, s.2))));
    full = behind_full rest;
  }

-- A part, and a token behind it that ends the row.
module _ {K X Y T : Type 0} (l : X → List K → Type 0) (part : Reader K X) (gx : X → K → Bool) (show : K → Option Y) (f : X → Y → T) (g : T → K → Bool) where
  pub row_close : Row l part gx → (c₀ : K) (y₀ : Y) → show c₀ ≡ Some y₀ → ((x : X) (c : K) (y : Y) → show c ≡ Some y → gx x c ≡ false) → ((x : X) (y : Y) (c : K) → g (f x y) c ≡ false)
      → Row (along l (λ x. made (f x) (showing show))) (part >>= (λ x. token show >>= (λ y. pure (f x y)))) g
  row_close r c₀ y₀ shown apart ends =
      row_then l part gx (λ x. made (f x) (showing show)) (λ x. token show >>= (λ y. pure (f x y))) g r
      (λ x. row_last (showing show) (token show) (λ _ _. false) (f x) g (row_one show c₀ y₀ shown) (λ y u c m. ends x y c))
      (λ x t c s m. let h = heads_made (f x) show t c s m in apart x c h.0 h.1)

-- One of two rows, by the first token; the first row need be one only where a token chooses it.
module _ {K T : Type 0} (p : K → Bool) (la lb : T → List K → Type 0) (ra rb : Reader K T) (g : T → K → Bool)
    (a : (c : K) → p c ≡ true → Row la ra g) (b : Row lb rb g)
    (l : T → List K → Type 0)
    (into_a : (t : T) (u : List K) → la t u → l t u)
    (into_b : (t : T) (u : List K) → lb t u → l t u)
    (back : (t : T) (u : List K) → l t u → la t u ⊎ lb t u)
    (full_a : (t : T) → la t [] → ⊥)
    (heads_a : (t : T) (c : K) (u : List K) → la t (c ∷ u) → p c ≡ true)
    (heads_b : (t : T) (c : K) (u : List K) → lb t (c ∷ u) → p c ≡ false) where
  choice_full : (t : T) → la t [] ⊎ lb t [] → ⊥
  choice_full t (inl m) = full_a t m
  choice_full t (inr m) = b.full t m

  pub row_choice : Row l (choice p ra rb) g
  row_choice = record {
    exact = exact_choice p la lb ra rb g (λ c h. (a c h).exact) b.exact l into_a into_b back full_a b.full heads_a heads_b;
    some = (b.some.0, b.some.1, into_b b.some.0 b.some.1 b.some.2);
    full = λ t m. choice_full t (back t [] m);
  }

-- The same row by another reader.
pub row_same : {K T : Type 0} (l : T → List K → Type 0) (run other : Reader K T) (g : T → K → Bool) → Row l run g → ((ts : List K) → run ts ≡ other ts) → Row l other g
row_same l run other g a same = record { exact = exact_same l run other g a.exact same; some = a.some; full = a.full }

-- The same reader under another language.
module _ {K X T : Type 0} (la : X → List K → Type 0) (ra : Reader K X) (ga : X → K → Bool) (a : Row la ra ga) (f : X → T) (l : T → List K → Type 0) (g : T → K → Bool)
    (into : (x : X) (u : List K) → la x u → l (f x) u)
    (back : (t : T) (u : List K) → l t u → (x : X) × (f x ≡ t) × la x u)
    (goes : (x : X) (u : List K) (c : K) → la x u → g (f x) c ≡ ga x c) where
  pub row_map : Row l (ra >>= (λ x. pure (f x))) g
  row_map = record {
    exact = exact_map la ra ga a.exact f l g into back goes;
    some = (f a.some.0, a.some.1, into a.some.0 a.some.1 a.some.2);
    full = λ t m. let b = back t [] m in a.full b.0 b.2;
  }

-- The same reader under an equal language.
module _ {K T : Type 0} (la : T → List K → Type 0) (run : Reader K T) (g h : T → K → Bool) (a : Row la run g) (l : T → List K → Type 0)
    (into : (t : T) (u : List K) → la t u → l t u)
    (back : (t : T) (u : List K) → l t u → la t u)
    (goes : (t : T) (u : List K) (c : K) → la t u → h t c ≡ g t c) where
  ends_to : (t : T) (u left : List K) → la t u → Ends (g t) left → Ends (h t) left
  ends_to t u [] m e = tt
  ends_to t u (c ∷ left) m e = goes t u c m ∙ e

  ends_from : (t : T) (u left : List K) → la t u → Ends (h t) left → Ends (g t) left
  ends_from t u [] m e = tt
  ends_from t u (c ∷ left) m e = sym (goes t u c m) ∙ e

  pub row_of : Row l run h
  row_of = record {
    exact = record {
      sound = λ ts t left e. let f = a.exact.sound ts t left e in record { read = f.read; same = f.same; spells = into t f.read f.spells; ends = ends_to t f.read left f.spells f.ends };
      complete = λ t u rest m e. a.exact.complete t u rest (back t u m) (ends_from t u rest (back t u m) e);
      refuses = λ ts n e. let f = a.exact.refuses ts n e in
          record { read = f.read; left = f.left; same = f.same; count = f.count; viable = (f.viable.0, f.viable.1, into f.viable.0 (f.read ++ f.viable.1) f.viable.2); local = f.local };
      on = λ t u c m e. let v = a.exact.on t u c (back t u m) (sym (goes t u c (back t u m)) ∙ e) in (v.0, v.1, into v.0 ((u ++ c ∷ []) ++ v.1) v.2);
    };
    some = (a.some.0, a.some.1, into a.some.0 a.some.1 a.some.2);
    full = λ t m. a.full t (back t [] m);
  }

-- ---- a tree with the line of its first token

abbrev pub lined_text : {K T : Type 0} → (List K → ℕ) → (T → List K → Type 0) → ℕ × T → List K → Type 0
lined_text first l p u = (first u ≡ p.0) × l p.1 u

module _ {K T : Type 0} (first : List K → ℕ) (l : T → List K → Type 0) (run : Reader K T) (g : T → K → Bool) (a : Exact l run g)
    (lead : (t : T) (u v : List K) → l t u → first (u ++ v) ≡ first u) where
  abbrev pub lined : Reader K (ℕ × T)
  lined ts = and_then (run ts) (λ t. pure (first ts, t))

  abbrev pub lined_goes : ℕ × T → K → Bool
  lined_goes p c = g p.1 c

  lined_found : (ts : List K) (o : Outcome K T) → run ts ≡ o → (p : ℕ × T) (left : List K) → and_then o (λ t. pure (first ts, t)) ≡ gives p left → Found (lined_text first l) lined_goes ts p left
  lined_found ts (gives t mid) e p left h =
      let f = a.sound ts t mid e in
      let p_is : (first ts, t) ≡ p = cc in
      let left_is : mid ≡ left = cc in
      let found : Found (lined_text first l) lined_goes ts (first ts, t) mid =
      record { read = f.read; same = f.same; spells = (sym (lead t f.read mid f.spells) ∙ ap first (sym f.same), f.spells); ends = ends mid f.ends } in
      subst (λ (w : List K). Found (lined_text first l) lined_goes ts p w) left_is (subst (λ (q : ℕ × T). Found (lined_text first l) lined_goes ts q mid) p_is found)
    where
      ends : (xs : List K) → Ends (g t) xs → Ends (lined_goes (first ts, t)) xs
      ends [] e = tt
      ends (x ∷ xs) e = e
  lined_found ts (refused i) e p left h = absurd cc

  lined_refused : (ts : List K) (o : Outcome K T) → run ts ≡ o → (i : ℕ) → and_then {B = ℕ × T} o (λ t. pure (first ts, t)) ≡ refused i → Refused (lined_text first l) lined ts i
  lined_refused ts (gives t mid) e i h = absurd cc
  lined_refused ts (refused j) e i h =
      let f = a.refuses ts j e in
      let j_is : j ≡ i = cc in
      record {
        read = f.read;
        left = f.left;
        same = f.same;
        count = sym j_is ∙ f.count;
        viable = ((first (f.read ++ f.viable.1), f.viable.0), f.viable.1, (refl, f.viable.2));
        local = λ c r s is. rw (f.local c r s is) refl;
      }

  lined_ends : (p : ℕ × T) (rest : List K) → Ends (lined_goes p) rest → Ends (g p.1) rest
  lined_ends p [] e = tt
  lined_ends p (c ∷ rest) e = e

  pub exact_lined : Exact (lined_text first l) lined lined_goes
  exact_lined = record {
    sound = λ ts p left h. lined_found ts (run ts) refl p left h;
    complete = λ p u rest m e. rw (a.complete p.1 u rest m.1 (lined_ends p rest e)) (ap (λ (i : ℕ). gives (i, p.1) rest) (lead p.1 u rest m.1 ∙ m.0));
    refuses = λ ts i h. lined_refused ts (run ts) refl i h;
    on = λ p u c m e. let v = a.on p.1 u c m.1 e in ((first ((u ++ c ∷ []) ++ v.1), v.0), v.1, (refl, v.2));
  }

-- A row with the line of its first token.
module _ {K T : Type 0} (first : List K → ℕ) (l : T → List K → Type 0) (run : Reader K T) (g : T → K → Bool) (a : Row l run g)
    (lead : (t : T) (u v : List K) → l t u → first (u ++ v) ≡ first u) where
  pub row_lined : Row (lined_text first l) (λ ts. and_then (run ts) (λ t. pure {A = ℕ × T} (first ts, t))) (λ p. g p.1)
  row_lined = record {
    exact = exact_lined first l run g a.exact lead;
    some = (let s = a.some in ((first s.1, s.0), s.1, (refl, s.2)));
    full = λ p m. a.full p.1 m.1;
  }
