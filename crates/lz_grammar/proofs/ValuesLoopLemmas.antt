-- A loop over the values of a list, beside the reader that recurs over them.
use Rattle.std.proofs.Common.{◌≡◌, ℕ, zero, suc, ◌-◌, Bool, true, false, List, [], ◌∷◌, ◌++◌, refl, sym, ap, ◌∙◌, append_assoc, arith}
use Rattle.std.specs.Prelude.{◌&&◌, not, nat_lt}
use Rattle.lz_tree.specs.declared.token.Token.{Token}
use Rattle.lz_tree.specs.declared.token.Punct.TheVariants as marks
use Rattle.lz_tree.specs.Languages.{is_mark}
use Rattle.lz_tree.specs.Trees.{Expression}
use Rattle.lz_expr.specs.Reading.{Outcome, gives, refused, Reader, and_then, pure, starts}
use Rattle.lz_expr.specs.Grammar.{mark, begins}
use Rattle.lz_grammar.specs.Grammar.{values}

-- what stands before the values that were read
abbrev pub behind_values : List Expression → Outcome Token (List Expression × Bool) → Outcome Token (List Expression × Bool)
behind_values xs (gives p left) = gives (xs ++ p.0, p.1) left
behind_values xs (refused n) = refused n

-- before the first value
pub values_none : (o : Outcome Token (List Expression × Bool)) → o ≡ behind_values [] o
values_none (gives p left) = refl
values_none (refused n) = refl

values_more : (xs : List Expression) (x : Expression) (o : Outcome Token (List Expression × Bool)) → behind_values xs (and_then o (λ more. pure (x ∷ more.0, more.1))) ≡ behind_values (xs ++ x ∷ []) o
values_more xs x (gives p left) = ap (λ (l : List Expression). gives (l, p.1) left) (sym (append_assoc xs (x ∷ []) p.0))
values_more xs x (refused n) = refl

module _ (e : ℕ → ℕ → Reader Token Expression) (h : ℕ) (whole : Outcome Token (List Expression × Bool)) (n : ℕ) (xs : List Expression) (ts : List Token) where
  -- a value that could not be read
  pub values_fail : (i : ℕ) → whole ≡ behind_values xs (values e h (suc n) ts) → e (h - 1) 12 ts ≡ refused i → whole ≡ refused i
  unfolding values
  values_fail i w v = w ∙ rw v refl

  module _ (x : Expression) (us : List Token) where
    -- no comma behind a value, and no end
    pub values_open : (i : ℕ) → whole ≡ behind_values xs (values e h (suc n) ts) → e (h - 1) 12 ts ≡ gives x us → begins marks.Comma us ≡ false → mark marks.CloseBrace us ≡ refused i → whole ≡ refused i
    unfolding values
    values_open i w v c k = w ∙ rw v (rw c (rw k refl))

    -- the end without a comma
    pub values_last : (line : ℕ) (left : List Token) → whole ≡ behind_values xs (values e h (suc n) ts) → e (h - 1) 12 ts ≡ gives x us → begins marks.Comma us ≡ false → mark marks.CloseBrace us ≡ gives line left
        → whole ≡ gives (xs ++ x ∷ [], false) left
    unfolding values
    values_last line left w v c k = w ∙ rw v (rw c (rw k refl))

    -- a comma that is none
    pub values_no_comma : (i : ℕ) → whole ≡ behind_values xs (values e h (suc n) ts) → e (h - 1) 12 ts ≡ gives x us → begins marks.Comma us ≡ true → mark marks.Comma us ≡ refused i → whole ≡ refused i
    unfolding values
    values_no_comma i w v c m = w ∙ rw v (rw c (rw m refl))

    module _ (at : ℕ) (vs : List Token) where
      -- behind a comma no value and no end
      pub values_shut : (i : ℕ) → whole ≡ behind_values xs (values e h (suc n) ts) → e (h - 1) 12 ts ≡ gives x us → begins marks.Comma us ≡ true → mark marks.Comma us ≡ gives at vs
          → starts (λ c. nat_lt 0 n && not (is_mark marks.CloseBrace c)) vs ≡ false → mark marks.CloseBrace vs ≡ refused i → whole ≡ refused i
      unfolding values
      values_shut i w v c m s k = w ∙ rw v (rw c (rw m (rw s (rw k refl))))

      -- the end behind a comma
      pub values_comma : (line : ℕ) (left : List Token) → whole ≡ behind_values xs (values e h (suc n) ts) → e (h - 1) 12 ts ≡ gives x us → begins marks.Comma us ≡ true → mark marks.Comma us ≡ gives at vs
          → starts (λ c. nat_lt 0 n && not (is_mark marks.CloseBrace c)) vs ≡ false → mark marks.CloseBrace vs ≡ gives line left → whole ≡ gives (xs ++ x ∷ [], true) left
      unfolding values
      values_comma line left w v c m s k = w ∙ rw v (rw c (rw m (rw s (rw k refl))))

      -- one more value
      pub values_on : whole ≡ behind_values xs (values e h (suc n) ts) → e (h - 1) 12 ts ≡ gives x us → begins marks.Comma us ≡ true → mark marks.Comma us ≡ gives at vs
          → starts (λ c. nat_lt 0 n && not (is_mark marks.CloseBrace c)) vs ≡ true → whole ≡ behind_values (xs ++ x ∷ []) (values e h n vs)
      unfolding values
      values_on w v c m s = w ∙ rw v (rw c (rw m (rw s (values_more xs x (values e h n vs)))))

-- where another value may come, there is a turn for it
pub turn_left : (n : ℕ) (ts : List Token) → starts (λ c. nat_lt 0 n && not (is_mark marks.CloseBrace c)) ts ≡ true → suc (n - 1) ≡ n
turn_left n [] h = absurd cc
turn_left zero (c ∷ ts) h = absurd cc
turn_left (suc n) (c ∷ ts) h = omega arith
