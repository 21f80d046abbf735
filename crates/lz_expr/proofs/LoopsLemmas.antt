-- Loops over the items of a list, beside the reader that recurs over them.
use Rattle.std.proofs.Common.{◌≡◌, ℕ, zero, suc, ◌+◌, ◌-◌, ◌<◌, ◌≤◌, Bool, true, false, List, [], ◌∷◌, ◌++◌, refl, sym, ap, ◌∙◌, append_assoc, append-nil, inl, inr, arith}
use Rattle.std.specs.Prelude.{◌⊎◌}
use Rattle.std.proofs.Common.{max}
use Rattle.lz_tree.specs.declared.token.Token.{Token}
use Rattle.lz_tree.specs.Trees.{Expression, expressions_of}
use Rattle.lz_tree.specs.Height.{expression_height, highest}
use Rattle.lz_expr.specs.declared.refusal.Refusal.{Refusal}
use Rattle.lz_expr.specs.declared.refusal.Refusal.TheVariants.{Refused, Memory}
use Rattle.lz_expr.specs.Grammar.{Fails}
use Rattle.lz_expr.specs.Reading.{Outcome, gives, refused, Reader, and_then, ◌>>=◌, pure, starts, until, behind}

module _ {K A B : Type 0} (p : K → Bool) (stop : Reader K B) (item : Reader K A) where
  abbrev list : ℕ → Reader K (List A)
  list = until p stop item

  behind_more : (xs : List A) (x : A) (o : Outcome K (List A)) → behind xs (and_then o (λ ys. pure (x ∷ ys))) ≡ behind (xs ++ x ∷ []) o
  behind_more xs x (gives ys left) = ap (λ (l : List A). gives l left) (sym (append_assoc xs (x ∷ []) ys))
  behind_more xs x (refused n) = refl

  -- before the first item
  pub behind_none : (o : Outcome K (List A)) → o ≡ behind [] o
  behind_none (gives ys left) = refl
  behind_none (refused n) = refl

  -- behind one item that was read before
  pub behind_one : (x : A) (o : Outcome K (List A)) → and_then o (λ ys. pure (x ∷ ys)) ≡ behind (x ∷ []) o
  behind_one x (gives ys left) = refl
  behind_one x (refused n) = refl

  fuel : (n at : ℕ) → at < n → n - at ≡ suc (n - (at + 1))
  fuel n at below = omega arith

  -- one more item
  pub until_more : (whole : Outcome K (List A)) (n at : ℕ) (xs : List A) (x : A) (ts rest : List K) → whole ≡ behind xs (list (n - at) ts) → at < n → starts p ts ≡ false → item ts ≡ gives x rest
      → whole ≡ behind (xs ++ x ∷ []) (list (n - (at + 1)) rest)
  unfolding until
  until_more whole n at xs x ts rest h below s e =
      h ∙ rw (fuel n at below) (rw s (rw e (behind_more xs x (list (n - (at + 1)) rest))))

  -- an item that could not be read
  pub until_fails : (whole : Outcome K (List A)) (n at : ℕ) (xs : List A) (i : ℕ) (ts : List K) → whole ≡ behind xs (list (n - at) ts) → at < n → starts p ts ≡ false → item ts ≡ refused i → whole ≡ refused i
  unfolding until
  until_fails whole n at xs i ts h below s e = h ∙ rw (fuel n at below) (rw s (rw e refl))

  -- the items, and what stands behind the end
  abbrev pub ended : List A → Outcome K B → Outcome K (List A)
  ended xs (gives b left) = gives xs left
  ended xs (refused n) = refused n

  behind_ended : (xs : List A) (o : Outcome K B) → behind xs (and_then o (λ b. pure [])) ≡ ended xs o
  behind_ended xs (gives b left) = ap (λ (l : List A). gives l left) (append-nil xs)
  behind_ended xs (refused n) = refl

  until_stops : (n : ℕ) (ts : List K) → starts p ts ≡ true → list n ts ≡ (stop >>= (λ b. pure [])) ts
  unfolding until
  until_stops zero ts s = refl
  until_stops (suc n) ts s = rw s refl

  -- at the end, met or out of turns
  pub until_ends : (whole : Outcome K (List A)) (n at : ℕ) (xs : List A) (ts : List K) → whole ≡ behind xs (list (n - at) ts) → (n ≤ at) ⊎ (starts p ts ≡ true) → whole ≡ ended xs (stop ts)
  unfolding until
  until_ends whole n at xs ts h (inl out) = let none : n - at ≡ 0 = omega arith in h ∙ rw none (behind_ended xs (stop ts))
  until_ends whole n at xs ts h (inr s) = h ∙ rw (until_stops (n - at) ts s) (behind_ended xs (stop ts))

-- a refusal of a part is one of the whole
pub fails : {Y V : Type 0} (e : Refusal) (part : Outcome Token Y) (whole : Outcome Token V) → Fails e part → ((n : ℕ) → part ≡ refused n → whole ≡ refused n) → Fails e whole
fails (Refused left) part whole h k = k left h
fails Memory part whole h k = tt

-- a step from a number to the one below it
pub deeper : {X : Type 0} (f : ℕ → X) (n : ℕ) → 0 < n → f n ≡ f (suc (n - 1))
deeper f n some = let e : n ≡ suc (n - 1) = omega arith in ap f e

-- the highest of expressions with one more at the end
pub highest_more : (es : List Expression) (e : Expression) → highest (expressions_of (es ++ e ∷ [])) ≡ max (highest (expressions_of es)) (expression_height e)
highest_more [] e = omega arith
highest_more (x ∷ es) e = let more = highest_more es e in omega arith
