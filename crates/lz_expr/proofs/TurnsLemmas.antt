-- A reader that recurs by a number of turns, read with more turns than there are tokens.
use Rattle.std.proofs.Common.{◌≡◌, ℕ, zero, suc, ◌+◌, ◌<◌, Bool, true, List, [], ◌∷◌, ◌++◌, length, refl, sym, ap, ◌∙◌, arith, length-append}
use Rattle.lz_expr.specs.Fronts.{Viable}
use Rattle.lz_expr.specs.Reading.{gives, refused, Reader}
use Rattle.lz_expr.proofs.ExactLemmas.{Refused, Found}
use Rattle.lz_expr.proofs.RowsLemmas.{Row}

-- what stands in front of equally many tokens of one list is equal
front_same : {K : Type 0} (u v x y : List K) → u ++ x ≡ v ++ y → length x ≡ length y → u ≡ v
front_same [] [] x y same e = refl
front_same [] (d ∷ v) x y same e = let n : length x ≡ suc (length v) + length y = ap length same ∙ length-append (d ∷ v) y in absurd (omega arith)
front_same (c ∷ u) [] x y same e = let n : suc (length u) + length x ≡ length y = sym (length-append (c ∷ u) x) ∙ ap length same in absurd (omega arith)
front_same {K = K} (c ∷ u) (d ∷ v) x y same e =
    let rest : u ++ x ≡ v ++ y = cc in
    let first : c ≡ d = cc in
    let more : u ≡ v = front_same u v x y rest e in cc

module _ {K T : Type 0} (l : T → List K → Type 0) (ln : ℕ → T → List K → Type 0) (run : ℕ → Reader K T) (g : T → K → Bool)
    (turn : (n : ℕ) → Row (ln (suc n)) (run (suc n)) g)
    (up : (n : ℕ) (t : T) (u : List K) → ln n t u → l t u)
    (down : (n : ℕ) (t : T) (u : List K) → l t u → length u < n → ln n t u)
    (same : (n m : ℕ) (ts : List K) → length ts < n → length ts < m → run n ts ≡ run m ts) where
  abbrev pub all : Reader K T
  all ts = run (suc (length ts)) ts

  within : (u rest : List K) → length u < suc (length (u ++ rest))
  within u rest = let e = length-append u rest in omega arith

  all_sound : (ts : List K) (t : T) (left : List K) → all ts ≡ gives t left → Found l g ts t left
  all_sound ts t left h =
      let f = (turn (length ts)).exact.sound ts t left h in
      record { read = f.read; same = f.same; spells = up (suc (length ts)) t f.read f.spells; ends = f.ends }

  -- a refusal stays with any number of turns that is enough
  local_by : (ts : List K) (i : ℕ) → all ts ≡ refused i → (f : Refused (ln (suc (length ts))) (run (suc (length ts))) ts i) → (c : K) (r s : List K) → f.left ≡ c ∷ r → all (f.read ++ c ∷ s) ≡ refused (suc (length s))
  local_by ts i h f c r s is =
      let n : ℕ = length ts + length (f.read ++ c ∷ s) in
      let again : run (suc n) ts ≡ refused i = same (suc n) (suc (length ts)) ts (omega arith) (omega arith) ∙ h in
      let k = (turn n).exact.refuses ts i again in
      let texts : k.read ++ k.left ≡ f.read ++ f.left = sym k.same ∙ f.same in
      let fronts : k.read ≡ f.read = front_same k.read f.read k.left f.left texts (sym k.count ∙ f.count) in
      let lefts : k.left ≡ c ∷ r = left_same k.read f.read k.left f.left texts fronts ∙ is in
      let there : run (suc n) (k.read ++ c ∷ s) ≡ refused (suc (length s)) = k.local c r s lefts in
      same (suc (length (f.read ++ c ∷ s))) (suc n) (f.read ++ c ∷ s) (omega arith) (omega arith) ∙ ap (λ (w : List K). run (suc n) (w ++ c ∷ s)) (sym fronts) ∙ there
    where
      drop_front : (u x y : List K) → u ++ x ≡ u ++ y → x ≡ y
      drop_front [] x y e = e
      drop_front (d ∷ u) x y e = let rest : u ++ x ≡ u ++ y = cc in drop_front u x y rest

      left_same : (u v x y : List K) → u ++ x ≡ v ++ y → u ≡ v → x ≡ y
      left_same u v x y e is = drop_front u x y (e ∙ ap (λ (w : List K). w ++ y) (sym is))

  all_refuses : (ts : List K) (i : ℕ) → all ts ≡ refused i → Refused l all ts i
  all_refuses ts i h =
      let f = (turn (length ts)).exact.refuses ts i h in
      record {
        read = f.read;
        left = f.left;
        same = f.same;
        count = f.count;
        viable = (f.viable.0, f.viable.1, up (suc (length ts)) f.viable.0 (f.read ++ f.viable.1) f.viable.2);
        local = λ c r s is. local_by ts i h f c r s is;
      }

  all_on : (t : T) (u : List K) (c : K) → l t u → g t c ≡ true → Viable l (u ++ c ∷ [])
  all_on t u c m e =
      let v = (turn (length u)).exact.on t u c (down (suc (length u)) t u m (omega arith)) e in
      (v.0, v.1, up (suc (length u)) v.0 ((u ++ c ∷ []) ++ v.1) v.2)

  pub row_turns : Row l all g
  row_turns = record {
    exact = record {
      sound = all_sound;
      complete = λ t u rest m e. (turn (length (u ++ rest))).exact.complete t u rest (down (suc (length (u ++ rest))) t u m (within u rest)) e;
      refuses = all_refuses;
      on = all_on;
    };
    some = (let s = (turn zero).some in (s.0, s.1, up (suc zero) s.0 s.1 s.2));
    full = λ t m. (turn zero).full t (down (suc zero) t [] m (omega arith));
  }
