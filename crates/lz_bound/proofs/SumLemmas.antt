-- Sums over a list, item by item, that stop at the greatest number.
use Rattle.std.proofs.Common.{◌≡◌, ℕ, suc, ◌+◌, ◌<◌, List, [], ◌∷◌, length, drop, get_or, map, refl, ap, arith, add-one}
use Rattle.std.proofs.Math.Seq.{drop-cons, drop-length}
use Rattle.lz_tree.specs.ScopedTrees.{ScopedExpression, scoped_expressions_of}
use Rattle.lz_bound.specs.BoundedTrees.{BoundedStatement, BoundedRoutine, bounded_statements_of}
use Rattle.lz_bound.specs.Sizes.{saturated, expression_size, expressions_size, statement_size, routines_size}

-- the sum of the numbers of a list's items
abbrev pub total : {A : Type 0} → (A → ℕ) → List A → ℕ
total f [] = 0
total f (x ∷ rest) = f x + total f rest

-- the size of expressions in a list
pub expressions_size-of : {A : Type 0} (f : A → ScopedExpression) (xs : List A) → expressions_size (scoped_expressions_of (map f xs)) ≡ total (λ x. expression_size (f x)) xs
expressions_size-of f [] = refl
expressions_size-of f (x ∷ rest) = ap (λ n. expression_size (f x) + n) (expressions_size-of f rest)

-- that of statements in a list
pub statements_size-of : {A : Type 0} (f : A → BoundedStatement) (xs : List A) → statement_size (bounded_statements_of (map f xs)) ≡ total (λ x. statement_size (f x)) xs + 1
statements_size-of f [] = refl
statements_size-of f (x ∷ rest) = let ih = statements_size-of f rest in omega arith

-- that of routines in a list
pub routines_size-of : {A : Type 0} (f : A → BoundedRoutine) (xs : List A) → routines_size (map f xs) ≡ total (λ x. statement_size (f x).body) xs
routines_size-of f [] = refl
routines_size-of f (x ∷ rest) = ap (λ n. statement_size (f x).body + n) (routines_size-of f rest)

-- What a sum keeps: the sum so far and that of the items that are left give the whole, however far it counts.
pub record IsSumSoFar {A : Type 0} (f : A → ℕ) (xs : List A) (at sum : ℕ) : Type 0 where
  pub whole : saturated (sum + total f (drop at xs)) ≡ saturated (total f xs)
  pub low : saturated sum ≡ sum

pub sum_start : {A : Type 0} (f : A → ℕ) (xs : List A) → IsSumSoFar f xs 0 0
sum_start f xs = record { whole = ap saturated (omega arith); low = refl }

here : {A : Type 0} (f : A → ℕ) (xs : List A) (at : ℕ) (x : A) → at < length xs → x ≡ get_or xs at x → total f (drop at xs) ≡ f x + total f (drop (at + 1) xs)
here {A = A} f xs at x lt is =
    let cut : drop at xs ≡ get_or xs at x ∷ drop (suc at) xs = drop-cons xs at x lt in
    let one : at + 1 ≡ suc at = add-one at in
    rw (cut, ← is, one) refl

-- one turn
pub sum_turn : {A : Type 0} (f : A → ℕ) (xs : List A) (at sum new item : ℕ) (x : A) → at < length xs → x ≡ get_or xs at x → IsSumSoFar f xs at sum → item ≡ saturated (f x) → new ≡ saturated (sum + item) → IsSumSoFar f xs (at + 1) new
sum_turn f xs at sum new item x lt is so_far one made =
    let now : total f (drop at xs) ≡ f x + total f (drop (at + 1) xs) = here f xs at x lt is in
    let before : saturated (sum + total f (drop at xs)) ≡ saturated (total f xs) = so_far.whole in
    record { whole = omega arith; low = omega arith }

-- at the end it is the whole
pub sum_end : {A : Type 0} {f : A → ℕ} {xs : List A} {at sum : ℕ} → at ≡ length xs → IsSumSoFar f xs at sum → sum ≡ saturated (total f xs)
sum_end {A = A} {f} {xs} {at} {sum} end so_far =
    let gone : drop at xs ≡ [] = rw end (drop-length xs) in
    let before : saturated (sum + total f (drop at xs)) ≡ saturated (total f xs) = so_far.whole in
    let none : total f (drop at xs) ≡ 0 = ap (total f) gone in
    let low : saturated sum ≡ sum = so_far.low in
    omega arith

-- the same for a sum that began elsewhere
pub record IsSumFrom {A : Type 0} (f : A → ℕ) (all : ℕ) (xs : List A) (at sum : ℕ) : Type 0 where
  pub whole : saturated (sum + total f (drop at xs)) ≡ saturated all
  pub low : saturated sum ≡ sum

-- one turn
pub from_turn : {A : Type 0} (f : A → ℕ) (all : ℕ) (xs : List A) (at sum new item : ℕ) (x : A) → at < length xs → x ≡ get_or xs at x → IsSumFrom f all xs at sum → item ≡ saturated (f x) → new ≡ saturated (sum + item) → IsSumFrom f all xs (at + 1) new
from_turn f all xs at sum new item x lt is so_far one made =
    let now : total f (drop at xs) ≡ f x + total f (drop (at + 1) xs) = here f xs at x lt is in
    let before : saturated (sum + total f (drop at xs)) ≡ saturated all = so_far.whole in
    record { whole = omega arith; low = omega arith }

-- at the end it is the whole
pub from_end : {A : Type 0} {f : A → ℕ} {all : ℕ} {xs : List A} {at sum : ℕ} → at ≡ length xs → IsSumFrom f all xs at sum → sum ≡ saturated all
from_end {A = A} {f} {all} {xs} {at} {sum} end so_far =
    let gone : drop at xs ≡ [] = rw end (drop-length xs) in
    let before : saturated (sum + total f (drop at xs)) ≡ saturated all = so_far.whole in
    let none : total f (drop at xs) ≡ 0 = ap (total f) gone in
    let low : saturated sum ≡ sum = so_far.low in
    omega arith

-- it begins with a number, before any item
pub from_start : {A : Type 0} (f : A → ℕ) (all : ℕ) (xs ys : List A) (first sum : ℕ) → all ≡ first + total f ys → xs ≡ ys → sum ≡ saturated first → IsSumFrom f all xs 0 sum
from_start f all xs ys first sum e same began =
    let left : total f xs ≡ total f ys = ap (total f) same in
    record { whole = omega (arith, e, left, began); low = omega (arith, began) }
