-- A loop over external declarations beside the reader that recurs over them, and the height of a body.
use Rattle.std.proofs.Common.{◌≡◌, ℕ, zero, suc, ◌+◌, ◌-◌, ◌<◌, ◌≤◌, Bool, true, false, List, [], ◌∷◌, ◌++◌, refl, sym, ap, ◌∙◌, append_assoc, append-nil, inl, inr, arith}
use Rattle.std.specs.Prelude.{◌⊎◌}
use Rattle.lz_expr.specs.Reading.{Outcome, gives, refused, Reader, and_then, pure, starts, many, behind}
use Rattle.lz_grammar.specs.Grammar.{blocked, stmt}
use Rattle.lz_parse.specs.Grammar.{body}

module _ {K A : Type 0} (p : K → Bool) (item : Reader K A) where
  abbrev list : ℕ → Reader K (List A)
  list = many p item

  behind_more : (xs : List A) (x : A) (o : Outcome K (List A)) → behind xs (and_then o (λ ys. pure (x ∷ ys))) ≡ behind (xs ++ x ∷ []) o
  behind_more xs x (gives ys left) = ap (λ (l : List A). gives l left) (sym (append_assoc xs (x ∷ []) ys))
  behind_more xs x (refused n) = refl

  -- behind one item that was read before
  pub behind_first : (x : A) (o : Outcome K (List A)) → and_then o (λ ys. pure (x ∷ ys)) ≡ behind (x ∷ []) o
  behind_first x (gives ys left) = refl
  behind_first x (refused n) = refl

  fuel : (n at : ℕ) → at < n → n - at ≡ suc (n - (at + 1))
  fuel n at below = omega arith

  -- one more item
  pub many_more : (whole : Outcome K (List A)) (n at : ℕ) (xs : List A) (x : A) (ts rest : List K) → whole ≡ behind xs (list (n - at) ts) → at < n → starts p ts ≡ true → item ts ≡ gives x rest
      → whole ≡ behind (xs ++ x ∷ []) (list (n - (at + 1)) rest)
  unfolding many
  many_more whole n at xs x ts rest h below s e = h ∙ rw (fuel n at below) (rw s (rw e (behind_more xs x (list (n - (at + 1)) rest))))

  -- an item that could not be read
  pub many_fails : (whole : Outcome K (List A)) (n at : ℕ) (xs : List A) (i : ℕ) (ts : List K) → whole ≡ behind xs (list (n - at) ts) → at < n → starts p ts ≡ true → item ts ≡ refused i → whole ≡ refused i
  unfolding many
  many_fails whole n at xs i ts h below s e = h ∙ rw (fuel n at below) (rw s (rw e refl))

  none_more : (n : ℕ) (ts : List K) → starts p ts ≡ false → list n ts ≡ gives [] ts
  unfolding many
  none_more zero ts s = refl
  none_more (suc n) ts s = rw s refl

  -- no item comes, or the turns are over
  pub many_ends : (whole : Outcome K (List A)) (n at : ℕ) (xs : List A) (ts : List K) → whole ≡ behind xs (list (n - at) ts) → (n ≤ at) ⊎ (starts p ts ≡ false) → whole ≡ gives xs ts
  unfolding many
  many_ends whole n at xs ts h (inl out) = let none : n - at ≡ 0 = omega arith in h ∙ rw none (ap (λ (l : List A). gives l ts) (append-nil xs))
  many_ends whole n at xs ts h (inr s) = h ∙ rw (none_more (n - at) ts s) (ap (λ (l : List A). gives l ts) (append-nil xs))

-- the parts of a body are one lower
pub body_below : (h : ℕ) → 0 < h → body h ≡ blocked (stmt (h - 1)) (h - 1)
unfolding body
body_below zero some = absurd (omega arith)
body_below (suc h) some = let same : h ≡ suc h - 1 = omega arith in ap (λ (n : ℕ). blocked (stmt n) n) same
