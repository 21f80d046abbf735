-- Operators that group to the left, under a limit on the height.
use Rattle.std.proofs.Common.{◌≡◌, ℕ, zero, suc, ◌+◌, ◌<◌, ◌≤◌, Bool, true, false, List, [], ◌∷◌, ◌++◌, length, Option, Some, None, refl, sym, ap, subst, ◌∙◌, inl, inr, append_assoc, arith, nat_lt}
use Rattle.std.specs.Prelude.{if◌then◌else◌, ◌⊎◌, ◌||◌, ◌&&◌}
use Rattle.std.proofs.lemmas.Bool.{or_parts, and_parts, or_from, lt-ltb, ltb-true}
use Rattle.std.proofs.Math.Bool.{and-false}
use Rattle.lz_expr.specs.Fronts.{Viable}
use Rattle.lz_expr.specs.Reading.{Outcome, gives, refused, Reader, and_then, ◌>>=◌, shown, token, starts, Ends, shows, climb, row_of_operators}
use Rattle.lz_expr.proofs.ExactLemmas.{Refused, Found, Exact}
use Rattle.lz_expr.proofs.RowsLemmas.{Row}

-- One tree of the level is one of the tighter level, or an operator between one of this level and one below the limit.
pub record Joined {K T O : Type 0} (height : T → ℕ) (show : K → Option O) (make : ℕ → O → T → T → T) (top : ℕ) (first : List K → ℕ)
    (l : T → List K → Type 0) (lr : T → List K → Type 0) (t : T) (u : List K) : Type 0 where
  pub op : O
  pub left : T
  pub right : T
  pub before : List K
  pub at : K
  pub behind : List K
  pub is : make (first before) op left right ≡ t
  pub same : u ≡ before ++ at ∷ behind
  pub shows : show at ≡ Some op
  pub left_in : l left before
  pub right_in : lr right behind

-- what goes on behind a tree of the level: what goes on in its last operand, or an operator below the limit
abbrev pub level_goes : {K T O : Type 0} → (T → ℕ) → (K → Option O) → ℕ → (T → K → Bool) → T → K → Bool
level_goes height show top hang t c = hang t c || (nat_lt (height t) top && shows (show c))

module _ {K T O : Type 0} (height : T → ℕ) (show : K → Option O) (make : ℕ → O → T → T → T) (top : ℕ) (first : List K → ℕ)
    (l lt lr : T → List K → Type 0) (rt rr : Reader K T) (gt gr : T → K → Bool) (tighter : Exact lt rt gt) (right : 1 < top → Row lr rr gr) (hang : T → K → Bool)
    (tall : (t : T) → 0 < height t)
    (higher : (line : ℕ) (o : O) (a b : T) → height a < height (make line o a b))
    (low : (t : T) (u : List K) → l t u → height t ≤ top)
    (into : (t : T) (u : List K) → lt t u → l t u)
    (join : (t r : T) (u v : List K) (c : K) (o : O) → l t u → height t < top → show c ≡ Some o → lr r v → l (make (first u) o t r) (u ++ c ∷ v))
    (split : (t : T) (u : List K) → l t u → lt t u ⊎ Joined height show make top first l lr t u)
    (lead : (t : T) (u v : List K) → l t u → first (u ++ v) ≡ first u)
    (hang_t : (t : T) (u : List K) (c : K) → lt t u → hang t c ≡ gt t c)
    (hang_m : (line : ℕ) (o : O) (a b : T) (c k : K) → show k ≡ Some o → hang (make line o a b) c ≡ gr b c)
    (apart : (t : T) (u : List K) (c : K) (o : O) → l t u → show c ≡ Some o → hang t c ≡ false) where
  -- right operands are read exactly where there is room for them
  operand : (t : T) → height t < top → Row lr rr gr
  operand t below = right (let some = tall t in omega arith)

  abbrev is_op : K → Bool
  is_op c = shows (show c)

  abbrev goes : T → K → Bool
  goes = level_goes height show top hang

  abbrev climbs : ℕ → ℕ → T → Reader K T
  climbs = climb height show make top rr

  abbrev level : Reader K T
  level = row_of_operators height show make top first rt rr

  ends_hang_t : (t : T) (u rest : List K) → lt t u → Ends (hang t) rest → Ends (gt t) rest
  ends_hang_t t u [] m e = tt
  ends_hang_t t u (c ∷ rest) m e = sym (hang_t t u c m) ∙ e

  ends_hang_m : (line : ℕ) (o : O) (a b : T) (rest : List K) (k : K) → show k ≡ Some o → Ends (hang (make line o a b)) rest → Ends (gr b) rest
  ends_hang_m line o a b [] k s e = tt
  ends_hang_m line o a b (c ∷ rest) k s e = sym (hang_m line o a b c k s) ∙ e

  -- one more operator is taken
  step : (line n : ℕ) (t r : T) (c : K) (o : O) (v rest : List K) → height t < top → show c ≡ Some o → rr (v ++ rest) ≡ gives r rest
      → climbs line (suc n) t (c ∷ v ++ rest) ≡ climbs line n (make line o t r) rest
  unfolding climb token
  step line n t r c o v rest h s e = rw (lt-ltb (height t) top h) (rw s (rw e refl))

  record Reached (t : T) (u rest : List K) : Type 0 where
    fuel : ℕ
    enough : top < fuel + height t
    run : level (u ++ rest) ≡ climbs (first u) fuel t rest

  some_fuel : (n : ℕ) → 0 < n → (m : ℕ) × (n ≡ suc m)
  some_fuel zero h = absurd (omega arith)
  some_fuel (suc m) h = (m, refl)

  reach_step : (t : T) (u rest : List K) (j : Joined height show make top first l lr t u) → l t u → Reached j.left j.before (j.at ∷ (j.behind ++ rest)) → Ends (hang t) rest → Reached t u rest
  reach_step t u rest j m s e =
      let lower : height j.left < height t = (let P : T → Type 0 = λ x. height j.left < height x in subst P j.is (higher (first j.before) j.op j.left j.right)) in
      let high : height t ≤ top = low t u m in
      let below : height j.left < top = omega arith in
      let turns : 0 < s.fuel = omega (arith, s.enough) in
      let k = some_fuel s.fuel turns in
      let left_ends : Ends (gr j.right) rest = ends_hang_m (first j.before) j.op j.left j.right rest j.at j.shows (let P : T → Type 0 = λ x. Ends (hang x) rest in subst P (sym j.is) e) in
      let more = step (first j.before) k.0 j.left j.right j.at j.op j.behind rest below j.shows ((operand j.left below).exact.complete j.right j.behind rest j.right_in left_ends) in
      let now : level (j.before ++ j.at ∷ (j.behind ++ rest)) ≡ climbs (first j.before) k.0 t rest =
      s.run ∙ ap (λ (i : ℕ). climbs (first j.before) i j.left (j.at ∷ (j.behind ++ rest))) k.1 ∙ more ∙ ap (λ (x : T). climbs (first j.before) k.0 x rest) j.is in
      let texts : u ++ rest ≡ j.before ++ j.at ∷ (j.behind ++ rest) = ap (λ (w : List K). w ++ rest) j.same ∙ append_assoc j.before (j.at ∷ j.behind) rest in
      let firsts : first u ≡ first j.before = ap first j.same ∙ lead j.left j.before (j.at ∷ j.behind) j.left_in in
      record {
        fuel = k.0;
        enough = (let total : s.fuel + height j.left ≡ suc k.0 + height j.left = ap (λ (i : ℕ). i + height j.left) k.1 in omega (arith, s.enough));
        run = ap level texts ∙ now ∙ ap (λ (i : ℕ). climbs i k.0 t rest) (sym firsts);
      }

  lower : (t : T) (u : List K) (j : Joined height show make top first l lr t u) → height j.left < height t
  lower t u j = let P : T → Type 0 = λ x. height j.left < height x in subst P j.is (higher (first j.before) j.op j.left j.right)

  reach_leaf : (t : T) (u rest : List K) → l t u → lt t u → Ends (hang t) rest → Reached t u rest
  reach_leaf t u rest m k e =
      record { fuel = suc top; enough = omega arith; run = rw (tighter.complete t u rest k (ends_hang_t t u rest k e)) (ap (λ (i : ℕ). climbs i (suc top) t rest) (lead t u rest m)) }

  reach : (n : ℕ) (t : T) (u rest : List K) → height t ≤ n → l t u → Ends (hang t) rest → Reached t u rest
  reach zero t u rest h m e = elim (split t u m) [ inl k ↦ reach_leaf t u rest m k e | inr j ↦ (let less = lower t u j in absurd (omega (arith, less))) ]
  reach (suc n) t u rest h m e = elim (split t u m) [
    | inl k ↦ reach_leaf t u rest m k e
    | inr j ↦ (let less = lower t u j in reach_step t u rest j m (reach n j.left j.before (j.at ∷ (j.behind ++ rest)) (omega (arith, less)) j.left_in (apart j.left j.before j.at j.op j.left_in j.shows)) e)
  ]

  -- ---- the end of a row of operators

  stops : (line n : ℕ) (t : T) (rest : List K) → Ends (goes t) rest → top < n + height t → climbs line n t rest ≡ gives t rest
  unfolding climb
  stops line zero t rest e h = refl
  stops line (suc n) t [] e h = rw (and-false (nat_lt (height t) top)) refl
  stops line (suc n) t (c ∷ rest) e h = rw (or_parts (hang t c) (nat_lt (height t) top && is_op c) e).1 refl

  ends_hang : (t : T) (rest : List K) → Ends (goes t) rest → Ends (hang t) rest
  ends_hang t [] e = tt
  ends_hang t (c ∷ rest) e = (or_parts (hang t c) (nat_lt (height t) top && is_op c) e).0

  level_complete : (t : T) (u rest : List K) → l t u → Ends (goes t) rest → level (u ++ rest) ≡ gives t rest
  level_complete t u rest m e =
      let r = reach (height t) t u rest (omega arith) m (ends_hang t rest e) in
      r.run ∙ stops (first u) r.fuel t rest e r.enough

  -- ---- what was read is of the level

  record At (ts : List K) (t : T) (left : List K) : Type 0 where
    read : List K
    same : ts ≡ read ++ left
    of : l t read
    ends : Ends (hang t) left

  ends_level : (t : T) (left : List K) → Ends (hang t) left → (nat_lt (height t) top && starts is_op left) ≡ false → Ends (goes t) left
  ends_level t [] e h = tt
  ends_level t (c ∷ left) e h = or_from (hang t c) (nat_lt (height t) top && is_op c) e h

  found_at : (ts : List K) (t : T) (left : List K) (a : At ts t left) → (nat_lt (height t) top && starts is_op left) ≡ false → (x : T) (rest : List K) → gives t left ≡ gives x rest → Found l goes ts x rest
  found_at ts t left a h x rest e =
      let found : Found l goes ts t left = record { read = a.read; same = a.same; spells = a.of; ends = ends_level t left a.ends h } in
      let t_is : t ≡ x = cc in
      let left_is : left ≡ rest = cc in
      subst (λ (w : List K). Found l goes ts x w) left_is (subst (λ (y : T). Found l goes ts y left) t_is found)

  -- one more operator and operand
  record Next (ts : List K) (t : T) (left : List K) (a : At ts t left) (line : ℕ) : Type 0 where
    c : K
    rest : List K
    op : O
    left_is : left ≡ c ∷ rest
    shown : show c ≡ Some op

  no_op : (c : K) (o : Option O) → show c ≡ o → shows o ≡ true → (op : O) × (show c ≡ Some op)
  no_op c None e h = absurd cc
  no_op c (Some op) e h = (op, e)

  next : (ts : List K) (t : T) (left : List K) (a : At ts t left) (line : ℕ) → starts is_op left ≡ true → Next ts t left a line
  next ts t [] a line h = absurd cc
  next ts t (c ∷ rest) a line h = let s = no_op c (show c) refl h in record { c = c; rest = rest; op = s.0; left_is = refl; shown = s.1 }

  at_more : (ts : List K) (t : T) (left : List K) (a : At ts t left) (line : ℕ) → first a.read ≡ line → height t < top → (m : Next ts t left a line) → (r : T) (mid : List K) → Found lr gr m.rest r mid
      → (b : At ts (make line m.op t r) mid) × (first b.read ≡ line)
  at_more ts t left a line is h m r mid f =
      let whole : ts ≡ (a.read ++ m.c ∷ f.read) ++ mid = a.same ∙ ap (λ (w : List K). a.read ++ w) (m.left_is ∙ ap (λ (w : List K). m.c ∷ w) f.same) ∙ sym (append_assoc a.read (m.c ∷ f.read) mid) in
      let joined = join t r a.read f.read m.c m.op a.of h m.shown f.spells in (
        record {
          read = a.read ++ m.c ∷ f.read;
          same = whole;
          of = subst (λ (i : ℕ). l (make i m.op t r) (a.read ++ m.c ∷ f.read)) is joined;
          ends = ends_make mid f.ends;
        },
        lead t a.read (m.c ∷ f.read) a.of ∙ is,
      )
    where
      ends_make : (xs : List K) → Ends (gr r) xs → Ends (hang (make line m.op t r)) xs
      ends_make [] e = tt
      ends_make (x ∷ xs) e = hang_m line m.op t r x m.c m.shown ∙ e

  -- what the rest of the row does behind one more operator
  behind : (n line : ℕ) (t : T) → ℕ → List K → O → Outcome K T
  behind n line t i rest op = and_then (rr rest) (λ r. climbs line n (make line op t r))

  climb_turn : (n line : ℕ) (ts : List K) (t : T) (left : List K) (a : At ts t left) → first a.read ≡ line → top < suc n + height t → height t < top → (m : Next ts t left a line)
      → (again : (r : T) (mid : List K) (b : At ts (make line m.op t r) mid) → first b.read ≡ line → (x : T) (rest : List K) → climbs line n (make line m.op t r) mid ≡ gives x rest → Found l goes ts x rest)
      → (o : Outcome K T) → rr m.rest ≡ o → (x : T) (rest : List K) → and_then o (λ r. climbs line n (make line m.op t r)) ≡ gives x rest → Found l goes ts x rest
  climb_turn n line ts t left a is h below m again (gives r mid) e x rest k =
      let b = at_more ts t left a line is below m r mid ((operand t below).exact.sound m.rest r mid e) in again r mid b.0 b.1 x rest k
  climb_turn n line ts t left a is h below m again (refused i) e x rest k = absurd cc

  turn : (n line : ℕ) (ts : List K) (t : T) (left : List K) (a : At ts t left) (m : Next ts t left a line) → (token show >>= (λ op. rr >>= (λ r. climbs line n (make line op t r)))) left ≡ and_then (rr m.rest) (λ r. climbs line n (make line m.op t r))
  unfolding token
  turn n line ts t left a m = rw m.left_is (rw m.shown refl)

  abbrev Continues : ℕ → ℕ → List K → Type 0
  Continues n line ts = (t : T) (left : List K) (a : At ts t left) → first a.read ≡ line → top < n + height t → (x : T) (rest : List K) → climbs line n t left ≡ gives x rest → Found l goes ts x rest

  sound_by : (n line : ℕ) (ts : List K) → Continues n line ts → (t : T) (left : List K) (a : At ts t left) → first a.read ≡ line → top < suc n + height t → (x : T) (rest : List K)
      → (q : Bool) → (nat_lt (height t) top && starts is_op left) ≡ q
      → (if q then (token show >>= (λ op. rr >>= (λ r. climbs line n (make line op t r)))) left else gives t left) ≡ gives x rest → Found l goes ts x rest
  sound_by n line ts again t left a is h x rest false s k = found_at ts t left a s x rest k
  sound_by n line ts again t left a is h x rest true s k =
      let below : height t < top = ltb-true (height t) top (and_parts (nat_lt (height t) top) (starts is_op left) s).0 in
      let m = next ts t left a line (and_parts (nat_lt (height t) top) (starts is_op left) s).1 in
      climb_turn n line ts t left a is h below m
      (λ r mid b b_is y w k. again (make line m.op t r) mid b b_is (let more = higher line m.op t r in omega (arith, more)) y w k)
      (rr m.rest) refl x rest (sym (turn n line ts t left a m) ∙ k)

  climb_sound : (n line : ℕ) (ts : List K) → Continues n line ts
  unfolding climb
  climb_sound zero line ts t left a is h x rest e = let high = low t a.read a.of in absurd (omega (arith, high))
  climb_sound (suc n) line ts t left a is h x rest e = sound_by n line ts (climb_sound n line ts) t left a is h x rest (nat_lt (height t) top && starts is_op left) refl e

  at_first : (ts : List K) (t : T) (mid : List K) → Found lt gt ts t mid → At ts t mid
  at_first ts t mid f = record { read = f.read; same = f.same; of = into t f.read f.spells; ends = ends_first mid f.ends }
    where
      ends_first : (xs : List K) → Ends (gt t) xs → Ends (hang t) xs
      ends_first [] e = tt
      ends_first (x ∷ xs) e = hang_t t f.read x f.spells ∙ e

  first_is : (ts : List K) (t : T) (mid : List K) (f : Found lt gt ts t mid) → first f.read ≡ first ts
  first_is ts t mid f = sym (lead t f.read mid (into t f.read f.spells)) ∙ ap first (sym f.same)

  level_sound : (ts : List K) (o : Outcome K T) → rt ts ≡ o → (x : T) (rest : List K) → and_then o (climbs (first ts) (suc top)) ≡ gives x rest → Found l goes ts x rest
  unfolding at_first
  level_sound ts (gives t mid) e x rest h =
      let f = tighter.sound ts t mid e in
      climb_sound (suc top) (first ts) ts t mid (at_first ts t mid f) (first_is ts t mid f) (omega arith) x rest h
  level_sound ts (refused n) e x rest h = absurd cc

  -- ---- what is refused

  abbrev Refuses : ℕ → ℕ → List K → Type 0
  Refuses n line ts = (t : T) (left : List K) (a : At ts t left) → first a.read ≡ line → top < n + height t → (i : ℕ) → climbs line n t left ≡ refused i → Refused l level ts i

  -- the right operand can't go on: the row is viable up to there, and nothing behind the next token was looked at
  right_refused : (n line : ℕ) (ts : List K) (t : T) (left : List K) (a : At ts t left) → first a.read ≡ line → height t < top → (m : Next ts t left a line) → (i : ℕ) → Refused lr rr m.rest i → Refused l level ts i
  unfolding climb token
  right_refused n line ts t left a is below m i f = record {
    read = a.read ++ m.c ∷ f.read;
    left = f.left;
    same = a.same ∙ ap (λ (w : List K). a.read ++ w) (m.left_is ∙ ap (λ (w : List K). m.c ∷ w) f.same) ∙ sym (append_assoc a.read (m.c ∷ f.read) f.left);
    count = f.count;
    viable = (
      make (first a.read) m.op t f.viable.0,
      f.viable.1,
      (let P : List K → Type 0 = λ w. l (make (first a.read) m.op t f.viable.0) w in
          subst P (sym (append_assoc a.read (m.c ∷ f.read) f.viable.1)) (join t f.viable.0 a.read (f.read ++ f.viable.1) m.c m.op a.of below m.shown f.viable.2)),
    );
    local = λ c r s same. again c r s same;
  }
    where
      again : (c : K) (r s : List K) → f.left ≡ c ∷ r → level ((a.read ++ m.c ∷ f.read) ++ c ∷ s) ≡ refused (suc (length s))
      again c r s same =
          let e : Reached t a.read (m.c ∷ (f.read ++ c ∷ s)) = reach (height t) t a.read (m.c ∷ (f.read ++ c ∷ s)) (omega arith) a.of (apart t a.read m.c m.op a.of m.shown) in
          let turns : 0 < e.fuel = omega (arith, e.enough) in
          let k = some_fuel e.fuel turns in
          rw append_assoc (e.run ∙ ap (λ (j : ℕ). climbs (first a.read) j t (m.c ∷ (f.read ++ c ∷ s))) k.1 ∙ rw (lt-ltb (height t) top below) (rw m.shown (rw (f.local c r s same) refl)))

  refuses_turn : (n line : ℕ) (ts : List K) → Refuses n line ts → (t : T) (left : List K) (a : At ts t left) → first a.read ≡ line → top < suc n + height t → height t < top → (m : Next ts t left a line)
      → (o : Outcome K T) → rr m.rest ≡ o → (i : ℕ) → and_then o (λ r. climbs line n (make line m.op t r)) ≡ refused i → Refused l level ts i
  refuses_turn n line ts again t left a is h below m (gives r mid) e i k =
      let b = at_more ts t left a line is below m r mid ((operand t below).exact.sound m.rest r mid e) in
      again (make line m.op t r) mid b.0 b.1 (let more = higher line m.op t r in omega (arith, more)) i k
  refuses_turn n line ts again t left a is h below m (refused j) e i k =
      let j_is : j ≡ i = cc in
      let P : ℕ → Type 0 = λ x. Refused l level ts x in
      subst P j_is (right_refused n line ts t left a is below m j ((operand t below).exact.refuses m.rest j e))

  refuses_by : (n line : ℕ) (ts : List K) → Refuses n line ts → (t : T) (left : List K) (a : At ts t left) → first a.read ≡ line → top < suc n + height t → (i : ℕ)
      → (q : Bool) → (nat_lt (height t) top && starts is_op left) ≡ q
      → (if q then (token show >>= (λ op. rr >>= (λ r. climbs line n (make line op t r)))) left else gives t left) ≡ refused i → Refused l level ts i
  refuses_by n line ts again t left a is h i false s k = absurd cc
  refuses_by n line ts again t left a is h i true s k =
      let below : height t < top = ltb-true (height t) top (and_parts (nat_lt (height t) top) (starts is_op left) s).0 in
      let m = next ts t left a line (and_parts (nat_lt (height t) top) (starts is_op left) s).1 in
      refuses_turn n line ts again t left a is h below m (rr m.rest) refl i (sym (turn n line ts t left a m) ∙ k)

  climb_refuses : (n line : ℕ) (ts : List K) → Refuses n line ts
  unfolding climb
  climb_refuses zero line ts t left a is h i e = absurd cc
  climb_refuses (suc n) line ts t left a is h i e = refuses_by n line ts (climb_refuses n line ts) t left a is h i (nat_lt (height t) top && starts is_op left) refl e

  level_refuses : (ts : List K) (o : Outcome K T) → rt ts ≡ o → (i : ℕ) → and_then o (climbs (first ts) (suc top)) ≡ refused i → Refused l level ts i
  unfolding at_first
  level_refuses ts (gives t mid) e i h =
      let f = tighter.sound ts t mid e in
      climb_refuses (suc top) (first ts) ts t mid (at_first ts t mid f) (first_is ts t mid f) (omega arith) i h
  level_refuses ts (refused j) e i h =
      let f = tighter.refuses ts j e in
      let j_is : j ≡ i = cc in
      record {
        read = f.read;
        left = f.left;
        same = f.same;
        count = sym j_is ∙ f.count;
        viable = (f.viable.0, f.viable.1, into f.viable.0 (f.read ++ f.viable.1) f.viable.2);
        local = λ c r s same. rw (f.local c r s same) refl;
      }

  -- ---- what goes on

  -- behind a tree of the level: in its last operand, or by an operator
  on_left : (t : T) (u : List K) (c : K) → Viable lt (u ++ c ∷ []) → Viable l (u ++ c ∷ [])
  on_left t u c (x, s, m) = (x, s, into x ((u ++ c ∷ []) ++ s) m)

  on_right : (t : T) (u v w : List K) (k : K) (o : O) (c : K) → l t u → height t < top → show k ≡ Some o → w ≡ u ++ k ∷ v → Viable lr (v ++ c ∷ []) → Viable l (w ++ c ∷ [])
  on_right t u v w k o c m below shown same (r, s, n) =
      (make (first u) o t r, s, (let P : List K → Type 0 = λ z. l (make (first u) o t r) z in subst P (texts u v w s k c same) (join t r u ((v ++ c ∷ []) ++ s) k o m below shown n)))
    where
      texts : (u v w s : List K) (k c : K) → w ≡ u ++ k ∷ v → u ++ k ∷ ((v ++ c ∷ []) ++ s) ≡ (w ++ c ∷ []) ++ s
      texts u v w s k c same = rw same (simp append_assoc)

  on_op : (t : T) (u : List K) (c : K) → l t u → height t < top → is_op c ≡ true → Viable l (u ++ c ∷ [])
  on_op t u c m below e =
      let o = no_op c (show c) refl e in
      let r = (operand t below).some in
      (make (first u) o.0 t r.0, r.1, (let P : List K → Type 0 = λ z. l (make (first u) o.0 t r.0) z in subst P (sym (append_assoc u (c ∷ []) r.1)) (join t r.0 u r.1 c o.0 m below o.1 r.2)))

  on_hang : (t : T) (u : List K) (c : K) → l t u → lt t u ⊎ Joined height show make top first l lr t u → hang t c ≡ true → Viable l (u ++ c ∷ [])
  on_hang t u c m (inl k) e = on_left t u c (tighter.on t u c k (sym (hang_t t u c k) ∙ e))
  on_hang t u c m (inr j) e =
      let less = lower t u j in
      let most = low t u m in
      let below : height j.left < top = omega arith in
      let h : gr j.right c ≡ true = sym (hang_m (first j.before) j.op j.left j.right c j.at j.shows) ∙ ap (λ (x : T). hang x c) j.is ∙ e in
      on_right j.left j.before j.behind u j.at j.op c j.left_in below j.shows j.same ((operand j.left below).exact.on j.right j.behind c j.right_in h)

  on_by : (t : T) (u : List K) (c : K) → l t u → (p q : Bool) → hang t c ≡ p → (nat_lt (height t) top && is_op c) ≡ q → goes t c ≡ true → Viable l (u ++ c ∷ [])
  on_by t u c m true q is is₂ e = on_hang t u c m (split t u m) is
  on_by t u c m false true is is₂ e =
      on_op t u c m (ltb-true (height t) top (and_parts (nat_lt (height t) top) (is_op c) is₂).0) (and_parts (nat_lt (height t) top) (is_op c) is₂).1
  on_by t u c m false false is is₂ e = let ends : goes t c ≡ false = or_from (hang t c) (nat_lt (height t) top && is_op c) is is₂ in absurd cc

  pub exact_level : Exact l (row_of_operators height show make top first rt rr) (level_goes height show top hang)
  exact_level = record {
    sound = λ ts t left h. level_sound ts (rt ts) refl t left h;
    complete = level_complete;
    refuses = λ ts n h. level_refuses ts (rt ts) refl n h;
    on = λ t u c m e. on_by t u c m (hang t c) (nat_lt (height t) top && is_op c) refl refl e;
  }

  level_full : (t : T) → ((x : T) → lt x [] → ⊥) → lt t [] ⊎ Joined height show make top first l lr t [] → ⊥
  level_full t full (inl m) = full t m
  level_full t full (inr j) = no_text j.before j.at j.behind j.same
    where
      no_text : (u : List K) (c : K) (v : List K) → [] ≡ u ++ c ∷ v → ⊥
      no_text [] c v same = cc
      no_text (d ∷ u) c v same = cc

  -- a level over a row is one
  pub row_level : Viable lt [] → ((x : T) → lt x [] → ⊥) → Row l (row_of_operators height show make top first rt rr) (level_goes height show top hang)
  row_level some full = record {
    exact = exact_level;
    some = (some.0, some.1, into some.0 some.1 some.2);
    full = λ t m. level_full t full (split t [] m);
  }
