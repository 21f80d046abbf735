-- A loop over operators, beside the reader that recurs over them.
use Rattle.std.proofs.Common.{◌≡◌, ℕ, zero, suc, ◌+◌, ◌<◌, ◌≤◌, false, List, [], ◌∷◌, Option, Some, None, refl, ap, ◌∙◌, inl, inr, arith, nat_lt}
use Rattle.std.specs.Prelude.{◌⊎◌}
use Rattle.std.proofs.lemmas.Bool.{lt-ltb, le-ltb}
use Rattle.std.proofs.Math.Bool.{and-false}
use Rattle.lz_tree.specs.declared.token.Token.{Token}
use Rattle.lz_expr.specs.Reading.{Outcome, gives, refused, Reader, and_then, token, starts, shows, climb}
use Rattle.lz_expr.specs.Grammar.{shown_at, with_rest}

module _ {T O : Type 0} (show : Token → Option O) (height : T → ℕ) (make : ℕ → O → T → T → T) (top : ℕ) (rr : Reader Token T) where
  abbrev climbs : ℕ → ℕ → T → Reader Token T
  climbs = climb height show make top rr

  taken_at : (line turns : ℕ) (t : T) (ts after : List Token) (op : O) → shown_at show ts ≡ Some (op, after) → height t < top → (o : Outcome Token T) → rr after ≡ o
      → climbs line (suc turns) t ts ≡ and_then o (λ r. climbs line turns (make line op t r))
  unfolding shown_at climb token
  taken_at line turns t [] after op e h o k = absurd cc
  taken_at line turns t (c ∷ ts) after op e h o k = by_shown (show c) refl e
    where
      by_shown : (s : Option O) → show c ≡ s → with_rest ts s ≡ Some (op, after) → climbs line (suc turns) t (c ∷ ts) ≡ and_then o (λ r. climbs line turns (make line op t r))
      by_shown None e h = absurd cc
      by_shown (Some x) s w =
          let p : (x, ts) ≡ (op, after) = cc in
          let op_is : x ≡ op = ap (λ (q : O × List Token). q.0) p in
          let after_is : ts ≡ after = ap (λ (q : O × List Token). q.1) p in
          rw (lt-ltb (height t) top h) (rw s (rw after_is (rw k (rw op_is refl))))

  some_turn : (k : ℕ) → 0 < k → (m : ℕ) × (k ≡ suc m)
  some_turn zero h = absurd (omega arith)
  some_turn (suc m) h = (m, refl)

  -- one more operator and operand
  pub taken : (whole : Outcome Token T) (line turns : ℕ) (t : T) (ts after : List Token) (op : O) (r : T) (rest : List Token) → whole ≡ climbs line turns t ts → top < turns + height t → height t < top → height t < height (make line op t r)
      → shown_at show ts ≡ Some (op, after) → rr after ≡ gives r rest → (m : ℕ) × (top < m + height (make line op t r)) × (whole ≡ climbs line m (make line op t r) rest)
  taken whole line turns t ts after op r rest e enough low higher shown k =
      let f = some_turn turns (omega arith) in
      let is : turns ≡ suc f.0 = f.1 in
      (f.0, omega arith, e ∙ ap (λ (i : ℕ). climbs line i t ts) f.1 ∙ taken_at line f.0 t ts after op shown low (gives r rest) k)

  -- an operand that could not be read
  pub not_taken : (whole : Outcome Token T) (line turns : ℕ) (t : T) (ts after : List Token) (op : O) (i : ℕ) → whole ≡ climbs line turns t ts → top < turns + height t → height t < top
      → shown_at show ts ≡ Some (op, after) → rr after ≡ refused i → whole ≡ refused i
  not_taken whole line turns t ts after op i e enough low shown k =
      let f = some_turn turns (omega arith) in
      e ∙ ap (λ (j : ℕ). climbs line j t ts) f.1 ∙ taken_at line f.0 t ts after op shown low (refused i) k

  none_starts : (ts : List Token) → shown_at show ts ≡ None → starts (λ c. shows (show c)) ts ≡ false
  unfolding shown_at
  none_starts [] e = refl
  none_starts (c ∷ ts) e = by_shown (show c) e
    where
      by_shown : (s : Option O) → with_rest ts s ≡ None → shows s ≡ false
      by_shown None e = refl
      by_shown (Some x) e = absurd cc

  over_at : (line turns : ℕ) (t : T) (ts : List Token) → (top ≤ height t) ⊎ (shown_at show ts ≡ None) → climbs line turns t ts ≡ gives t ts
  unfolding climb
  over_at line zero t ts e = refl
  over_at line (suc turns) t ts (inl h) = rw (le-ltb (height t) top h) refl
  over_at line (suc turns) t ts (inr e) = rw (none_starts ts e) (rw (and-false (nat_lt (height t) top)) refl)

  -- no operator, or no room for one
  pub over : (whole : Outcome Token T) (line turns : ℕ) (t : T) (ts : List Token) → whole ≡ climbs line turns t ts → (top ≤ height t) ⊎ (shown_at show ts ≡ None) → whole ≡ gives t ts
  over whole line turns t ts e h = e ∙ over_at line turns t ts h
