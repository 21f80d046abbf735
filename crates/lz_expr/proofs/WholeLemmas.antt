-- What exactness says of a whole input: the answer is the only tree, or the first token that can't stand.
use Rattle.std.proofs.Common.{◌≡◌, ℕ, suc, Bool, true, false, List, [], ◌∷◌, ◌++◌, length, refl, sym, ap, subst, ◌∙◌, append-nil, append_assoc}
use Rattle.lz_expr.specs.Fronts.{Viable}
use Rattle.lz_expr.specs.Reading.{gives, refused, Reader, Ends}
use Rattle.lz_expr.proofs.ExactLemmas.{Refused, Found, Exact}

module _ {K T : Type 0} (l : T → List K → Type 0) (run : Reader K T) (g : T → K → Bool) (a : Exact l run g) where
  whole : (t : T) (ts : List K) → l t ts → run ts ≡ gives t []
  whole t ts m = ap run (sym (append-nil ts)) ∙ a.complete t ts [] m tt

  -- no two trees spell the same tokens
  pub unique : (t u : T) (ts : List K) → l t ts → l u ts → t ≡ u
  unique t u ts m n = let e = whole t ts m in let f = whole u ts n in cc

  -- the front ends where a reader refused: no text goes on with the next token
  pub refused_there : (ts : List K) (n : ℕ) (f : Refused l run ts n) (c : K) (r : List K) → f.left ≡ c ∷ r → Viable l (f.read ++ c ∷ []) → ⊥
  refused_there ts n f c r is (t, s, m) =
      let e : run (f.read ++ c ∷ s) ≡ refused (suc (length s)) = f.local c r s is in
      let k : run (f.read ++ c ∷ s) ≡ gives t [] = ap run (sym (texts f.read c s)) ∙ whole t ((f.read ++ c ∷ []) ++ s) m in absurd cc
    where
      texts : (u : List K) (c : K) (s : List K) → (u ++ c ∷ []) ++ s ≡ u ++ c ∷ s
      texts u c s = simp append_assoc

  -- where a reader refused, the front spells no tree
  pub refused_front : (ts : List K) (n : ℕ) (f : Refused l run ts n) (t : T) → run ts ≡ refused n → l t f.read → ⊥
  refused_front ts n f t h m = by_left f.left refl
    where
      by_next : (c : K) (r : List K) (q : Bool) → f.left ≡ c ∷ r → g t c ≡ q → ⊥
      by_next c r true is e = refused_there ts n f c r is (a.on t f.read c m e)
      by_next c r false is e =
          let k : run (f.read ++ c ∷ []) ≡ gives t (c ∷ []) = a.complete t f.read (c ∷ []) m e in
          let o = f.local c r [] is in cc

      by_left : (left : List K) → f.left ≡ left → ⊥
      by_left [] is =
          let same : ts ≡ f.read = f.same ∙ ap (λ (w : List K). f.read ++ w) is ∙ append-nil f.read in
          let k = whole t f.read m in
          let o : run ts ≡ run f.read = ap run same in cc
      by_left (c ∷ r) is = by_next c r (g t c) is refl

  -- and where it answered
  pub found_there : (ts : List K) (t : T) (left : List K) (f : Found l g ts t left) (c : K) (r : List K) → left ≡ c ∷ r → Viable l (f.read ++ c ∷ []) → ⊥
  found_there ts t left f c r is (u, s, m) =
      let P : List K → Type 0 = λ w. Ends (g t) w in
      let here : g t c ≡ false = subst P is f.ends in
      let e : run (f.read ++ c ∷ s) ≡ gives t (c ∷ s) = a.complete t f.read (c ∷ s) f.spells here in
      let k : run (f.read ++ c ∷ s) ≡ gives u [] = ap run (sym (texts f.read c s)) ∙ whole u ((f.read ++ c ∷ []) ++ s) m in absurd cc
    where
      texts : (u : List K) (c : K) (s : List K) → (u ++ c ∷ []) ++ s ≡ u ++ c ∷ s
      texts u c s = simp append_assoc
