-- Bounds on the rounds of a list of thread numbers.
use Rattle.std.proofs.Common.{◌≡◌, ℕ, zero, suc, ◌≤◌, Bool, true, false, cond, ltb, List, [], ◌∷◌, length, replicate, refl, arith}
use Rattle.lz_base.specs.Descents.{descents}

one_at_most : (b : Bool) → cond b 1 0 ≤ 1
one_at_most true = omega arith
one_at_most false = omega arith

-- there are no more descents than threads
pub descents-le : (threads : List ℕ) → descents threads ≤ length threads
descents-le [] = omega arith
descents-le (thread ∷ []) = omega arith
descents-le (thread ∷ next ∷ threads) =
    omega (arith, one_at_most (ltb next thread), descents-le (next ∷ threads))

-- thread 0 alone makes no descent
pub descents-replicate_zero : (n : ℕ) → descents (replicate n 0) ≡ 0
descents-replicate_zero zero = refl
descents-replicate_zero (suc zero) = refl
descents-replicate_zero (suc (suc n)) = let rest = descents-replicate_zero (suc n) in omega (arith, rest)
