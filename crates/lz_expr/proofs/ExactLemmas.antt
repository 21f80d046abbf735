-- What it means that a reader is exact, and the readers made of exact readers: one token, one after another, the
-- same under another language, a choice by the first token, at most one.
use Rattle.std.proofs.Common.{◌≡◌, ℕ, suc, Bool, true, false, List, [], ◌∷◌, ◌++◌, length, Option, Some, None, refl, sym, ap, subst, ◌∙◌, inl, inr, append_assoc, append-nil}
use Rattle.std.specs.Prelude.{if◌then◌else◌, ◌⊎◌}
use Rattle.lz_tree.specs.Languages.{◌⊙◌, showing}
use Rattle.lz_expr.specs.Fronts.{Viable}
use Rattle.lz_expr.specs.Reading.{Outcome, gives, refused, Reader, and_then, ◌>>=◌, pure, shown, token, starts, choice, mapped, optional, Ends}

-- What a reader refused: the tokens before can begin a text, and no more than the next token was looked at.
pub record Refused {K T : Type 0} (l : T → List K → Type 0) (run : Reader K T) (ts : List K) (n : ℕ) : Type 0 where
  pub read : List K
  pub left : List K
  pub same : ts ≡ read ++ left
  pub count : n ≡ length left
  pub viable : Viable l read
  pub local : (c : K) (r s : List K) → left ≡ c ∷ r → run (read ++ c ∷ s) ≡ refused (suc (length s))

-- What a reader found: the tokens that it read spell the tree, and the tree doesn't go on with what is left.
pub record Found {K T : Type 0} (l : T → List K → Type 0) (goes : T → K → Bool) (ts : List K) (t : T) (left : List K) : Type 0 where
  pub read : List K
  pub same : ts ≡ read ++ left
  pub spells : l t read
  pub ends : Ends (goes t) left

-- A reader is exact for a language and for what goes on: where it answers, the tree is spelled and ends; each tree that
-- is spelled and ends is answered; a refusal is at the first token with which no text of the language goes on; and a
-- text of the language goes on behind a tree with each token that goes on.
pub record Exact {K T : Type 0} (l : T → List K → Type 0) (run : Reader K T) (goes : T → K → Bool) : Type 0 where
  pub sound : (ts : List K) (t : T) (left : List K) → run ts ≡ gives t left → Found l goes ts t left
  pub complete : (t : T) (u rest : List K) → l t u → Ends (goes t) rest → run (u ++ rest) ≡ gives t rest
  pub refuses : (ts : List K) (n : ℕ) → run ts ≡ refused n → Refused l run ts n
  pub on : (t : T) (u : List K) (c : K) → l t u → goes t c ≡ true → Viable l (u ++ c ∷ [])

-- ---- one token

module _ {K T : Type 0} (show : K → Option T) (c₀ : K) (t₀ : T) (shows : show c₀ ≡ Some t₀) where
  token_sound : (c : K) (rest left : List K) (t : T) (o : Option T) → show c ≡ o → shown c rest o ≡ gives t left → Found (showing show) (λ _ _. false) (c ∷ rest) t left
  token_sound c rest left t (Some x) e h =
      let a : x ≡ t = cc in let b : rest ≡ left = cc in
      record { read = c ∷ []; same = ap (λ (r : List K). c ∷ r) b; spells = (c, refl, e ∙ ap Some a); ends = ends_none left }
    where
      ends_none : (xs : List K) → Ends (λ _. false) xs
      ends_none [] = tt
      ends_none (x ∷ xs) = refl
  token_sound c rest left t None e h = absurd cc

  token_refuses : (c : K) (rest : List K) (n : ℕ) (o : Option T) → show c ≡ o → shown c rest o ≡ refused n → Refused (showing show) (token show) (c ∷ rest) n
  unfolding token
  token_refuses c rest n (Some x) e h = absurd cc
  token_refuses c rest n None e h =
      record { read = []; left = c ∷ rest; same = refl; count = cc; viable = (t₀, c₀ ∷ [], (c₀, refl, shows)); local = λ d r s same. let f : c ≡ d = cc in rw (← f) (rw e refl) }

  token_complete : (t : T) (u rest : List K) → showing show t u → Ends (λ _. false) rest → token show (u ++ rest) ≡ gives t rest
  unfolding token
  token_complete t u rest (c, same, shows) _ = rw same (rw shows refl)

  pub exact_token : Exact (showing show) (token show) (λ _ _. false)
  unfolding token
  exact_token = record { sound = sound; complete = token_complete; refuses = refuses; on = λ t u c m e. absurd cc }
    where
      sound : (ts : List K) (t : T) (left : List K) → token show ts ≡ gives t left → Found (showing show) (λ _ _. false) ts t left
      sound [] t left h = absurd cc
      sound (c ∷ rest) t left h = token_sound c rest left t (show c) refl h

      refuses : (ts : List K) (n : ℕ) → token show ts ≡ refused n → Refused (showing show) (token show) ts n
      refuses [] n h = record { read = []; left = []; same = refl; count = cc; viable = (t₀, c₀ ∷ [], (c₀, refl, shows)); local = λ d r s same. absurd cc }
      refuses (c ∷ rest) n h = token_refuses c rest n (show c) refl h

-- ---- one after another

pub ends_append : {K : Type 0} (p : K → Bool) (v rest : List K) (c : K) (r s : List K) → rest ≡ c ∷ r → Ends p (v ++ rest) → Ends p (v ++ c ∷ s)
ends_append {K = K} p [] rest c r s same e = let P : List K → Type 0 = λ x. Ends p x in subst P same e
ends_append p (d ∷ v) rest c r s same e = e

-- A reader, and then one that depends on what it read.
module _ {K X T : Type 0} (la : X → List K → Type 0) (ra : Reader K X) (ga : X → K → Bool) (lk : X → T → List K → Type 0) (rk : X → Reader K T) (gk : X → T → K → Bool)
    (a : Exact la ra ga) (k : (x : X) → Exact (lk x) (rk x) (gk x)) (g : T → K → Bool)
    (some : (x : X) (u : List K) → la x u → Viable (lk x) [])
    (apart : (x : X) (t : T) (u : List K) (c : K) (s : List K) → la x u → lk x t (c ∷ s) → ga x c ≡ false)
    (last : (x : X) (t : T) (v : List K) (c : K) → lk x t v → g t c ≡ false → gk x t c ≡ false)
    (first : (x : X) (t : T) (c : K) → lk x t [] → g t c ≡ false → ga x c ≡ false)
    (none : (x : X) (t : T) (c : K) (v : List K) → lk x t v → gk x t c ≡ false → (v ≡ [] → ga x c ≡ false) → g t c ≡ false) where
  abbrev row : T → List K → Type 0
  row t ts = (x : X) × (la x ⊙ lk x t) ts

  ends_after : (x : X) (t : T) (u v rest : List K) → la x u → lk x t v → Ends (g t) rest → Ends (ga x) (v ++ rest)
  ends_after x t u [] [] h m e = tt
  ends_after x t u [] (c ∷ rest) h m e = first x t c m e
  ends_after x t u (c ∷ v) rest h m e = apart x t u c v h m

  ends_last : (x : X) (t : T) (v rest : List K) → lk x t v → Ends (g t) rest → Ends (gk x t) rest
  ends_last x t v [] m e = tt
  ends_last x t v (c ∷ rest) m e = last x t v c m e

  ends_none : (x : X) (t : T) (v rest : List K) → lk x t v → Ends (ga x) (v ++ rest) → Ends (gk x t) rest → Ends (g t) rest
  ends_none x t v [] m e f = tt
  ends_none x t v (c ∷ rest) m e f = none x t c v m f (λ same. let P : List K → Type 0 = λ w. Ends (ga x) (w ++ c ∷ rest) in subst P same e)

  bind_complete : (t : T) (w rest : List K) → row t w → Ends (g t) rest → (ra >>= rk) (w ++ rest) ≡ gives t rest
  bind_complete t w rest (x, (u, v, same, h, m)) e =
      rw same (rw append_assoc (rw (a.complete x u (v ++ rest) h (ends_after x t u v rest h m e)) ((k x).complete t v rest m (ends_last x t v rest m e))))

  sound_from : (ts : List K) (o : Outcome K X) → ra ts ≡ o → (t : T) (left : List K) → and_then o rk ≡ gives t left → Found row g ts t left
  sound_from ts (gives x mid) e t left h =
      let f = a.sound ts x mid e in
      let m = (k x).sound mid t left h in
      record {
        read = f.read ++ m.read;
        same = f.same ∙ ap (λ (w : List K). f.read ++ w) m.same ∙ sym (append_assoc f.read m.read left);
        spells = (x, (f.read, m.read, refl, f.spells, m.spells));
        ends = ends_none x t m.read left m.spells (let P : List K → Type 0 = λ w. Ends (ga x) w in subst P m.same f.ends) m.ends;
      }
  sound_from ts (refused n) e t left h = absurd cc

  refuses_from : (ts : List K) (o : Outcome K X) → ra ts ≡ o → (n : ℕ) → and_then o rk ≡ refused n → Refused row (ra >>= rk) ts n
  refuses_from ts (gives x mid) e n h =
      let f = a.sound ts x mid e in
      let m = (k x).refuses mid n h in
      record {
        read = f.read ++ m.read;
        left = m.left;
        same = f.same ∙ ap (λ (w : List K). f.read ++ w) m.same ∙ sym (append_assoc f.read m.read m.left);
        count = m.count;
        viable = (m.viable.0, m.viable.1, (x, (f.read, m.read ++ m.viable.1, append_assoc f.read m.read m.viable.1, f.spells, m.viable.2)));
        local = λ c r s same.
            let here : Ends (ga x) (m.read ++ m.left) = (let P : List K → Type 0 = λ w. Ends (ga x) w in subst P m.same f.ends) in
            rw append_assoc (rw (a.complete x f.read (m.read ++ c ∷ s) f.spells (ends_append (ga x) m.read m.left c r s same here)) (m.local c r s same));
      }
  refuses_from ts (refused i) e n h =
      let f = a.refuses ts i e in
      let i_is : i ≡ n = cc in
      let more = some f.viable.0 (f.read ++ f.viable.1) f.viable.2 in
      record {
        read = f.read;
        left = f.left;
        same = f.same;
        count = sym i_is ∙ f.count;
        viable = (more.0, f.viable.1 ++ more.1, (f.viable.0, (f.read ++ f.viable.1, more.1, sym (append_assoc f.read f.viable.1 more.1), f.viable.2, more.2)));
        local = λ c r s same. rw (f.local c r s same) refl;
      }

  -- behind the second part the row goes on with what goes on behind that part, or behind the first where the second is empty
  on_last : (x : X) (t : T) (u v w : List K) (c : K) → w ≡ u ++ v → la x u → Viable (lk x) (v ++ c ∷ []) → Viable row (w ++ c ∷ [])
  on_last x t u v w c same h (t₂, s, m) = (t₂, s, (x, (u, (v ++ c ∷ []) ++ s, rw same (texts u v c s), h, m)))
    where
      texts : (u v : List K) (c : K) (s : List K) → ((u ++ v) ++ c ∷ []) ++ s ≡ u ++ ((v ++ c ∷ []) ++ s)
      texts u v c s = simp append_assoc

  on_first : (u w : List K) (c : K) → w ≡ u ++ [] → Viable la (u ++ c ∷ []) → Viable row (w ++ c ∷ [])
  on_first u w c same (x, s, h) =
      let more = some x ((u ++ c ∷ []) ++ s) h in
      (more.0, s ++ more.1, (x, ((u ++ c ∷ []) ++ s, more.1, rw (same ∙ append-nil u) (sym (append_assoc (u ++ c ∷ []) s more.1)), h, more.2)))

  on_by : (x : X) (t : T) (u v w : List K) (c : K) → w ≡ u ++ v → la x u → lk x t v → g t c ≡ true → (p q : Bool) → gk x t c ≡ p → ga x c ≡ q → Viable row (w ++ c ∷ [])
  on_by x t u v w c same h m e true q is is₂ = on_last x t u v w c same h ((k x).on t v c m is)
  on_by x t u [] w c same h m e false true is is₂ = on_first u w c same (a.on x u c h is₂)
  on_by x t u [] w c same h m e false false is is₂ = let ends : g t c ≡ false = none x t c [] m is (λ _. is₂) in absurd cc
  on_by x t u (d ∷ v) w c same h m e false q is is₂ = let ends : g t c ≡ false = none x t c (d ∷ v) m is (λ same. absurd cc) in absurd cc

  bind_on : (t : T) (w : List K) (c : K) → row t w → g t c ≡ true → Viable row (w ++ c ∷ [])
  bind_on t w c (x, (u, v, same, h, m)) e = on_by x t u v w c same h m e (gk x t c) (ga x c) refl refl

  pub exact_bind : Exact row (ra >>= rk) g
  exact_bind = record {
    sound = λ ts t left h. sound_from ts (ra ts) refl t left h;
    complete = bind_complete;
    refuses = λ ts n h. refuses_from ts (ra ts) refl n h;
    on = bind_on;
  }

-- ---- the same reader under another language

module _ {K X T : Type 0} (la : X → List K → Type 0) (ra : Reader K X) (ga : X → K → Bool) (a : Exact la ra ga) (f : X → T) (l : T → List K → Type 0) (g : T → K → Bool)
    (into : (x : X) (u : List K) → la x u → l (f x) u)
    (back : (t : T) (u : List K) → l t u → (x : X) × (f x ≡ t) × la x u)
    (goes : (x : X) (u : List K) (c : K) → la x u → g (f x) c ≡ ga x c) where
  ends_into : (x : X) (u left : List K) → la x u → Ends (ga x) left → Ends (g (f x)) left
  ends_into x u [] m e = tt
  ends_into x u (c ∷ left) m e = goes x u c m ∙ e

  ends_back : (x : X) (u left : List K) → la x u → Ends (g (f x)) left → Ends (ga x) left
  ends_back x u [] m e = tt
  ends_back x u (c ∷ left) m e = sym (goes x u c m) ∙ e

  map_sound : (ts : List K) (o : Outcome K X) → ra ts ≡ o → (t : T) (left : List K) → and_then o (λ x. pure (f x)) ≡ gives t left → Found l g ts t left
  map_sound ts (gives x mid) e t left h =
      let m = a.sound ts x mid e in
      let found : Found l g ts (f x) mid = record { read = m.read; same = m.same; spells = into x m.read m.spells; ends = ends_into x m.read mid m.spells m.ends } in
      let t_is : f x ≡ t = cc in
      let left_is : mid ≡ left = cc in
      subst (λ (w : List K). Found l g ts t w) left_is (subst (λ (y : T). Found l g ts y mid) t_is found)
  map_sound ts (refused n) e t left h = absurd cc

  map_refuses : (ts : List K) (o : Outcome K X) → ra ts ≡ o → (n : ℕ) → and_then o (λ x. pure (f x)) ≡ refused n → Refused l (ra >>= (λ x. pure (f x))) ts n
  map_refuses ts (gives x mid) e n h = absurd cc
  map_refuses ts (refused i) e n h =
      let m = a.refuses ts i e in
      let i_is : i ≡ n = cc in
      record {
        read = m.read;
        left = m.left;
        same = m.same;
        count = sym i_is ∙ m.count;
        viable = (f m.viable.0, m.viable.1, into m.viable.0 (m.read ++ m.viable.1) m.viable.2);
        local = λ c r s same. rw (m.local c r s same) refl;
      }

  map_complete_at : (x : X) (t : T) (u rest : List K) → f x ≡ t → la x u → Ends (g t) rest → (ra >>= (λ x. pure (f x))) (u ++ rest) ≡ gives t rest
  map_complete_at x t u rest is m e =
      let P : T → Type 0 = λ y. Ends (g y) rest in
      rw (a.complete x u rest m (ends_back x u rest m (subst P (sym is) e))) (ap (λ (y : T). gives y rest) is)

  map_on_at : (x : X) (t : T) (u : List K) (c : K) → f x ≡ t → la x u → g t c ≡ true → Viable l (u ++ c ∷ [])
  map_on_at x t u c is m e =
      let h : ga x c ≡ true = sym (goes x u c m) ∙ ap (λ (y : T). g y c) is ∙ e in
      let v = a.on x u c m h in
      (f v.0, v.1, into v.0 ((u ++ c ∷ []) ++ v.1) v.2)

  pub exact_map : Exact l (ra >>= (λ x. pure (f x))) g
  exact_map = record {
    sound = λ ts t left h. map_sound ts (ra ts) refl t left h;
    complete = λ t u rest m e. let b = back t u m in map_complete_at b.0 t u rest b.1 b.2 e;
    refuses = λ ts n h. map_refuses ts (ra ts) refl n h;
    on = λ t u c m e. let b = back t u m in map_on_at b.0 t u c b.1 b.2 e;
  }

-- ---- one of two, by the first token

module _ {K T : Type 0} (p : K → Bool) (la lb : T → List K → Type 0) (ra rb : Reader K T) (g : T → K → Bool) (a : (c : K) → p c ≡ true → Exact la ra g) (b : Exact lb rb g)
    (l : T → List K → Type 0)
    (into_a : (t : T) (u : List K) → la t u → l t u)
    (into_b : (t : T) (u : List K) → lb t u → l t u)
    (back : (t : T) (u : List K) → l t u → la t u ⊎ lb t u)
    (some_a : (t : T) → la t [] → ⊥)
    (some_b : (t : T) → lb t [] → ⊥)
    (heads_a : (t : T) (c : K) (u : List K) → la t (c ∷ u) → p c ≡ true)
    (heads_b : (t : T) (c : K) (u : List K) → lb t (c ∷ u) → p c ≡ false) where
  starts_a : (t : T) (u rest : List K) → la t u → starts p (u ++ rest) ≡ true
  starts_a t [] rest m = absurd (some_a t m)
  starts_a t (c ∷ u) rest m = heads_a t c u m

  starts_b : (t : T) (u rest : List K) → lb t u → starts p (u ++ rest) ≡ false
  starts_b t [] rest m = absurd (some_b t m)
  starts_b t (c ∷ u) rest m = heads_b t c u m

  -- the first reader is exact where it is chosen
  chosen : (ts : List K) → starts p ts ≡ true → Exact la ra g
  chosen [] e = absurd cc
  chosen (c ∷ ts) e = a c e

  choice_complete : (t : T) (u rest : List K) → la t u ⊎ lb t u → Ends (g t) rest → choice p ra rb (u ++ rest) ≡ gives t rest
  unfolding choice
  choice_complete t u rest (inl m) e = let first = starts_a t u rest m in rw first ((chosen (u ++ rest) first).complete t u rest m e)
  choice_complete t u rest (inr m) e = rw (starts_b t u rest m) (b.complete t u rest m e)

  choice_sound : (ts : List K) (q : Bool) → starts p ts ≡ q → (t : T) (left : List K) → (if q then ra ts else rb ts) ≡ gives t left → Found l g ts t left
  choice_sound ts true e t left h = let f = (chosen ts e).sound ts t left h in record { read = f.read; same = f.same; spells = into_a t f.read f.spells; ends = f.ends }
  choice_sound ts false e t left h = let f = b.sound ts t left h in record { read = f.read; same = f.same; spells = into_b t f.read f.spells; ends = f.ends }

  -- the first token, at which the choice is made, stays
  starts_same : (ts read left : List K) (c : K) (r s : List K) → ts ≡ read ++ left → left ≡ c ∷ r → starts p (read ++ c ∷ s) ≡ starts p ts
  starts_same ts [] left c r s same is = rw (same ∙ is) refl
  starts_same ts (d ∷ read) left c r s same is = rw same refl

  choice_refuses : (ts : List K) (q : Bool) → starts p ts ≡ q → (n : ℕ) → (if q then ra ts else rb ts) ≡ refused n → Refused l (choice p ra rb) ts n
  unfolding choice
  choice_refuses ts true e n h =
      let f = (chosen ts e).refuses ts n h in
      record {
        read = f.read;
        left = f.left;
        same = f.same;
        count = f.count;
        viable = (f.viable.0, f.viable.1, into_a f.viable.0 (f.read ++ f.viable.1) f.viable.2);
        local = λ c r s same. rw (starts_same ts f.read f.left c r s f.same same ∙ e) (f.local c r s same);
      }
  choice_refuses ts false e n h =
      let f = b.refuses ts n h in
      record {
        read = f.read;
        left = f.left;
        same = f.same;
        count = f.count;
        viable = (f.viable.0, f.viable.1, into_b f.viable.0 (f.read ++ f.viable.1) f.viable.2);
        local = λ c r s same. rw (starts_same ts f.read f.left c r s f.same same ∙ e) (f.local c r s same);
      }

  choice_on : (t : T) (u : List K) (c : K) → la t u ⊎ lb t u → g t c ≡ true → Viable l (u ++ c ∷ [])
  choice_on t u c (inl m) e = let v = (chosen u (first_of t u m)).on t u c m e in (v.0, v.1, into_a v.0 ((u ++ c ∷ []) ++ v.1) v.2)
    where
      first_of : (t : T) (u : List K) → la t u → starts p u ≡ true
      first_of t [] m = absurd (some_a t m)
      first_of t (c ∷ u) m = heads_a t c u m
  choice_on t u c (inr m) e = let v = b.on t u c m e in (v.0, v.1, into_b v.0 ((u ++ c ∷ []) ++ v.1) v.2)

  pub exact_choice : Exact l (choice p ra rb) g
  unfolding choice
  exact_choice = record {
    sound = λ ts t left h. choice_sound ts (starts p ts) refl t left h;
    complete = λ t u rest m e. choice_complete t u rest (back t u m) e;
    refuses = λ ts n h. choice_refuses ts (starts p ts) refl n h;
    on = λ t u c m e. choice_on t u c (back t u m) e;
  }

-- ---- nothing, or one that begins with a token of the kind

abbrev pub maybe : {K X : Type 0} → (X → List K → Type 0) → Option X → List K → Type 0
maybe l None u = u ≡ []
maybe l (Some x) u = l x u

abbrev pub maybe_goes : {K X : Type 0} → (K → Bool) → (X → K → Bool) → Option X → K → Bool
maybe_goes p g None c = p c
maybe_goes p g (Some x) c = g x c

module _ {K X : Type 0} (p : K → Bool) (l : X → List K → Type 0) (r : Reader K X) (g : X → K → Bool) (a : (c : K) → p c ≡ true → Exact l r g)
    (some : (x : X) → l x [] → ⊥)
    (heads : (x : X) (c : K) (u : List K) → l x (c ∷ u) → p c ≡ true)
    (begins : (c : K) → p c ≡ true → Viable l (c ∷ [])) where
  not_started : (rest : List K) → Ends p rest → starts p rest ≡ false
  not_started [] e = refl
  not_started (c ∷ rest) e = e

  started : (x : X) (u rest : List K) → l x u → starts p (u ++ rest) ≡ true
  started x [] rest m = absurd (some x m)
  started x (c ∷ u) rest m = heads x c u m

  -- the reader is exact where it is chosen
  chosen_here : (ts : List K) → starts p ts ≡ true → Exact l r g
  chosen_here [] e = absurd cc
  chosen_here (c ∷ ts) e = a c e

  maybe_complete : (t : Option X) (u rest : List K) → maybe l t u → Ends (maybe_goes p g t) rest → optional p r (u ++ rest) ≡ gives t rest
  unfolding optional
  maybe_complete None u rest m e = rw m (rw (not_started rest e) refl)
  maybe_complete (Some x) u rest m e = let first = started x u rest m in rw first (rw ((chosen_here (u ++ rest) first).complete x u rest m e) refl)

  ended : (ts : List K) → starts p ts ≡ false → Ends p ts
  ended [] h = tt
  ended (c ∷ ts) h = h

  maybe_found : (ts : List K) (o : Outcome K X) → r ts ≡ o → starts p ts ≡ true → (t : Option X) (left : List K) → mapped Some o ≡ gives t left → Found (maybe l) (maybe_goes p g) ts t left
  maybe_found ts (gives x mid) e s t left h =
      let f = (chosen_here ts s).sound ts x mid e in
      let found : Found (maybe l) (maybe_goes p g) ts (Some x) mid = record { read = f.read; same = f.same; spells = f.spells; ends = f.ends } in
      let t_is : Some x ≡ t = cc in
      let left_is : mid ≡ left = cc in
      subst (λ (w : List K). Found (maybe l) (maybe_goes p g) ts t w) left_is (subst (λ (y : Option X). Found (maybe l) (maybe_goes p g) ts y mid) t_is found)
  maybe_found ts (refused n) e s t left h = absurd cc

  maybe_sound : (ts : List K) (q : Bool) → starts p ts ≡ q → (t : Option X) (left : List K) → (if q then mapped Some (r ts) else gives None ts) ≡ gives t left → Found (maybe l) (maybe_goes p g) ts t left
  maybe_sound ts true s t left h = maybe_found ts (r ts) refl s t left h
  maybe_sound ts false s t left h =
      let found : Found (maybe l) (maybe_goes p g) ts None ts = record { read = []; same = refl; spells = refl; ends = ended ts s } in
      let t_is : None ≡ t = cc in
      let left_is : ts ≡ left = cc in
      subst (λ (w : List K). Found (maybe l) (maybe_goes p g) ts t w) left_is (subst (λ (y : Option X). Found (maybe l) (maybe_goes p g) ts y ts) t_is found)

  maybe_refused : (ts : List K) (o : Outcome K X) → r ts ≡ o → starts p ts ≡ true → (n : ℕ) → mapped Some o ≡ refused n → Refused (maybe l) (optional p r) ts n
  unfolding optional
  maybe_refused ts (gives x mid) e s n h = absurd cc
  maybe_refused ts (refused i) e s n h =
      let f = (chosen_here ts s).refuses ts i e in
      let i_is : i ≡ n = cc in
      record {
        read = f.read;
        left = f.left;
        same = f.same;
        count = sym i_is ∙ f.count;
        viable = (Some f.viable.0, f.viable.1, f.viable.2);
        local = λ c u v same. rw (first_same ts f.read f.left c u v f.same same ∙ s) (rw (f.local c u v same) refl);
      }
    where
      first_same : (ts read left : List K) (c : K) (u v : List K) → ts ≡ read ++ left → left ≡ c ∷ u → starts p (read ++ c ∷ v) ≡ starts p ts
      first_same ts [] left c u v same is = rw (same ∙ is) refl
      first_same ts (d ∷ read) left c u v same is = rw same refl

  maybe_refuses : (ts : List K) (q : Bool) → starts p ts ≡ q → (n : ℕ) → (if q then mapped Some (r ts) else gives None ts) ≡ refused n → Refused (maybe l) (optional p r) ts n
  maybe_refuses ts true s n h = maybe_refused ts (r ts) refl s n h
  maybe_refuses ts false s n h = absurd cc

  maybe_on : (t : Option X) (u : List K) (c : K) → maybe l t u → maybe_goes p g t c ≡ true → Viable (maybe l) (u ++ c ∷ [])
  maybe_on None u c m e = let v = begins c e in rw m (Some v.0, v.1, v.2)
  maybe_on (Some x) u c m e = let v = (chosen_here u (first_of u m)).on x u c m e in (Some v.0, v.1, v.2)
    where
      first_of : (u : List K) → l x u → starts p u ≡ true
      first_of [] m = absurd (some x m)
      first_of (d ∷ u) m = heads x d u m

  pub exact_optional : Exact (maybe l) (optional p r) (maybe_goes p g)
  unfolding optional
  exact_optional = record {
    sound = λ ts t left h. maybe_sound ts (starts p ts) refl t left h;
    complete = maybe_complete;
    refuses = λ ts n h. maybe_refuses ts (starts p ts) refl n h;
    on = maybe_on;
  }
