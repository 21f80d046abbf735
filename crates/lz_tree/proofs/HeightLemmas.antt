-- The greatest number of a list, item by item.
use Rattle.std.proofs.Common.{◌≡◌, ℕ, suc, ◌+◌, ◌<◌, ◌≤◌, max, List, [], ◌∷◌, length, drop, get_or, map, refl, ap, arith, add-one}
use Rattle.std.proofs.Math.Seq.{drop-cons, drop-length}
use Rattle.lz_tree.specs.Trees.{Expression, Statement, expressions_of, statements_of}
use Rattle.lz_tree.specs.Height.{greatest, expression_height, highest, statement_height, parts_height}

-- the highest of expressions in a list
pub highest-of : {A : Type 0} (f : A → Expression) (xs : List A) → highest (expressions_of (map f xs)) ≡ greatest (λ x. expression_height (f x)) xs
highest-of f [] = refl
highest-of f (x ∷ rest) = ap (λ n. max (expression_height (f x)) n) (highest-of f rest)

-- the highest of statements in a list
pub parts_height-of : {A : Type 0} (f : A → Statement) (xs : List A) → parts_height (statements_of (map f xs)) ≡ greatest (λ x. statement_height (f x)) xs
parts_height-of f [] = refl
parts_height-of f (x ∷ rest) = ap (λ n. max (statement_height (f x)) n) (parts_height-of f rest)

-- the greatest of what a map gives
pub greatest-map : {A B : Type 0} (f : B → ℕ) (g : A → B) (xs : List A) → greatest f (map g xs) ≡ greatest (λ x. f (g x)) xs
greatest-map f g [] = refl
greatest-map f g (x ∷ rest) = ap (λ n. max (f (g x)) n) (greatest-map f g rest)

-- What a search for the greatest keeps: the greatest so far and that of the items that are left give the whole.
pub record IsSoFar {A : Type 0} (f : A → ℕ) (xs : List A) (at top : ℕ) : Type 0 where
  pub whole : max top (greatest f (drop at xs)) ≡ greatest f xs

pub so_far_start : {A : Type 0} (f : A → ℕ) (xs : List A) → IsSoFar f xs 0 0
so_far_start f xs = record { whole = omega arith }

here : {A : Type 0} (f : A → ℕ) (xs : List A) (at : ℕ) (x : A) → at < length xs → x ≡ get_or xs at x → greatest f (drop at xs) ≡ max (f x) (greatest f (drop (at + 1) xs))
here {A = A} f xs at x lt is =
    let cut : drop at xs ≡ get_or xs at x ∷ drop (suc at) xs = drop-cons xs at x lt in
    let one : at + 1 ≡ suc at = add-one at in
    rw (cut, ← is, one) refl

-- one turn
pub so_far_turn : {A : Type 0} (f : A → ℕ) {xs : List A} {at top : ℕ} {x : A} → at < length xs → x ≡ get_or xs at x → IsSoFar f xs at top → IsSoFar f xs (at + 1) (max (f x) top)
so_far_turn f {xs} {at} {top} {x} lt is so_far =
    let now : greatest f (drop at xs) ≡ max (f x) (greatest f (drop (at + 1) xs)) = here f xs at x lt is in
    let before : max top (greatest f (drop at xs)) ≡ greatest f xs = so_far.whole in
    record { whole = omega arith }

-- an item's number is at most the greatest
pub so_far_item : {A : Type 0} (f : A → ℕ) {xs : List A} {at top : ℕ} {x : A} → at < length xs → x ≡ get_or xs at x → IsSoFar f xs at top → f x ≤ greatest f xs
so_far_item f {xs} {at} {top} {x} lt is so_far =
    let now : greatest f (drop at xs) ≡ max (f x) (greatest f (drop (at + 1) xs)) = here f xs at x lt is in
    let before : max top (greatest f (drop at xs)) ≡ greatest f xs = so_far.whole in
    omega arith

-- at the end it is the greatest
pub so_far_end : {A : Type 0} (f : A → ℕ) {xs : List A} {at top : ℕ} → at ≡ length xs → IsSoFar f xs at top → top ≡ greatest f xs
so_far_end {A = A} f {xs} {at} {top} end so_far =
    let gone : drop at xs ≡ [] = rw end (drop-length xs) in
    let before : max top (greatest f (drop at xs)) ≡ greatest f xs = so_far.whole in
    let none : greatest f (drop at xs) ≡ 0 = ap (greatest f) gone in
    omega arith
