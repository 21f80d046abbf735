-- The arguments of a call as the items of a list.
use Rattle.std.proofs.Common.{◌≡◌, suc, ◌<◌, List, [], ◌∷◌, length, map, refl, ap, arith}
use Rattle.lz_tree.specs.ScopedTrees.{ScopedExpression, scoped_expressions_of}
use Rattle.lz_slots.specs.Slots.{start_of}
use Rattle.lz_slots.specs.Costs.{number_of, second_length}

-- how many arguments there are
pub number_of-of : {A : Type 0} (f : A → ScopedExpression) (xs : List A) → number_of (scoped_expressions_of (map f xs)) ≡ length xs
number_of-of f [] = refl
number_of-of f (x ∷ rest) = ap suc (number_of-of f rest)

-- where there is no second argument
pub second_length-short : {A : Type 0} (f : A → ScopedExpression) (xs : List A) → length xs < 2 → 1 ≡ second_length (scoped_expressions_of (map f xs))
second_length-short f [] short = refl
second_length-short f (x ∷ []) short = refl
second_length-short f (x ∷ (y ∷ rest)) short = absurd (omega arith)

-- where there is no third argument
pub start_of-short : {A : Type 0} (f : A → ScopedExpression) (xs : List A) → length xs < 3 → 0 ≡ start_of (scoped_expressions_of (map f xs))
start_of-short f [] short = refl
start_of-short f (x ∷ []) short = refl
start_of-short f (x ∷ (y ∷ [])) short = refl
start_of-short f (x ∷ (y ∷ (z ∷ rest))) short = absurd (omega arith)
