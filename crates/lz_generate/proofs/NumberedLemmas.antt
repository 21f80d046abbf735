-- Sums and texts over the numbers from 1, with one more.
use Rattle.std.proofs.Common.{◌≡◌, ◌∙◌, ℕ, zero, suc, ◌+◌, List, [], ◌∷◌, ◌++◌, refl, ap, sym, arith}
use Rattle.std.specs.List.{flat_map, range_with_len, sum_by}
use Rattle.std.proofs.lemmas.List.{flat_map_more}
use Rattle.std.proofs.lemmas.List.Sums.{sum_by_push}
use Rattle.lz_generate.specs.Generated.{one_to}

range_more : (a n j : ℕ) → a + n ≡ j → range_with_len a (n + 1) ≡ range_with_len a n ++ j ∷ []
range_more a zero j e = let at : a ≡ j = omega (arith, e) in rw (sym at) refl
range_more a (suc n) j e = let next : suc n + 1 ≡ suc (n + 1) = omega arith in
    rw next (ap (λ xs. a ∷ xs) (range_more (a + 1) n j (omega (arith, e))))

one_more : (n : ℕ) → one_to (n + 1) ≡ one_to n ++ (n + 1) ∷ []
one_more n = range_more 1 n (n + 1) (omega arith)

-- a sum with the next number
pub sum_more : (f : ℕ → ℕ) (n : ℕ) → sum_by f (one_to n) + f (n + 1) ≡ sum_by f (one_to (n + 1))
sum_more f n = sym (ap (sum_by f) (one_more n) ∙ sum_by_push f (one_to n) (n + 1))

-- a text with that of the next number
pub text_more : (f : ℕ → List ℕ) (text : List ℕ) (n : ℕ) → text ++ flat_map f (one_to n) ++ f (n + 1) ≡ text ++ flat_map f (one_to (n + 1))
text_more f text n = flat_map_more f text (one_to n) (n + 1) ∙ ap (λ xs. text ++ flat_map f xs) (sym (one_more n))
