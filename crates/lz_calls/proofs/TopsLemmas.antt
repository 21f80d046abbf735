-- The highest of a list's items, item by item, up to the greatest number.
use Rattle.std.proofs.Common.{◌≡◌, ℕ, suc, ◌+◌, ◌<◌, max, List, [], ◌∷◌, length, drop, get_or, map, refl, ap, arith, add-one}
use Rattle.std.proofs.Math.Seq.{drop-cons, drop-length}
use Rattle.lz_tree.specs.ScopedTrees.{ScopedExpression, scoped_expressions_of, ScopedInitDeclarator, ScopedStatement, scoped_statements_of}
use Rattle.lz_calls.specs.Calls.{height_in, height_in_all, height_in_optional, height_in_initializer, height_in_declarators, height_of, height_of_all}
use Rattle.lz_calls.specs.Heights.{capped}

-- the highest of a list's items
abbrev pub highest : {A : Type 0} → (A → ℕ) → List A → ℕ
highest f [] = 0
highest f (x ∷ rest) = max (f x) (highest f rest)

-- the height of expressions in a list
pub height_in_all-of : {A : Type 0} (c : ℕ → ℕ) (f : A → ScopedExpression) (xs : List A) → height_in_all c (scoped_expressions_of (map f xs)) ≡ highest (λ x. height_in c (f x)) xs
unfolding height_in_all
height_in_all-of c f [] = refl
height_in_all-of c f (x ∷ rest) = ap (λ n. max (height_in c (f x)) n) (height_in_all-of c f rest)

-- that of declarators in a list
pub height_in_declarators-of : {A : Type 0} (c : ℕ → ℕ) (f : A → ScopedInitDeclarator) (xs : List A) → height_in_declarators c (map f xs) ≡ highest (λ x. max (height_in_optional c (f x).length) (height_in_initializer c (f x).first)) xs
height_in_declarators-of c f [] = refl
height_in_declarators-of c f (x ∷ rest) = ap (λ n. max (max (height_in_optional c (f x).length) (height_in_initializer c (f x).first)) n) (height_in_declarators-of c f rest)

-- that of statements in a list
pub height_of_all-of : {A : Type 0} (c : ℕ → ℕ) (f : A → ScopedStatement) (xs : List A) → height_of_all c (scoped_statements_of (map f xs)) ≡ highest (λ x. height_of c (f x)) xs
unfolding height_of_all
height_of_all-of c f [] = refl
height_of_all-of c f (x ∷ rest) = ap (λ n. max (height_of c (f x)) n) (height_of_all-of c f rest)

-- The highest so far and that of the items that are left give the highest of all.
pub record IsTopSoFar {A : Type 0} (f : A → ℕ) (xs : List A) (at top : ℕ) : Type 0 where
  pub whole : capped (max top (highest f (drop at xs))) ≡ capped (highest f xs)
  pub low : capped top ≡ top

pub top_start : {A : Type 0} (f : A → ℕ) (xs : List A) → IsTopSoFar f xs 0 0
top_start f xs = record { whole = omega arith; low = refl }

here : {A : Type 0} (f : A → ℕ) (xs : List A) (at : ℕ) (x : A) → at < length xs → x ≡ get_or xs at x → highest f (drop at xs) ≡ max (f x) (highest f (drop (at + 1) xs))
here {A = A} f xs at x lt is =
    let cut : drop at xs ≡ get_or xs at x ∷ drop (suc at) xs = drop-cons xs at x lt in
    let one : at + 1 ≡ suc at = add-one at in
    rw (cut, ← is, one) refl

-- one turn
pub top_turn : {A : Type 0} (f : A → ℕ) (xs : List A) (at top new item : ℕ) (x : A) → at < length xs → x ≡ get_or xs at x → IsTopSoFar f xs at top → item ≡ capped (f x) → new ≡ max top item → IsTopSoFar f xs (at + 1) new
top_turn f xs at top new item x lt is so_far one made =
    let now : highest f (drop at xs) ≡ max (f x) (highest f (drop (at + 1) xs)) = here f xs at x lt is in
    let before : capped (max top (highest f (drop at xs))) ≡ capped (highest f xs) = so_far.whole in
    let low : capped top ≡ top = so_far.low in
    record { whole = omega arith; low = omega arith }

-- at the end it is the highest of all
pub top_end : {A : Type 0} {f : A → ℕ} {xs : List A} {at top : ℕ} → at ≡ length xs → IsTopSoFar f xs at top → top ≡ capped (highest f xs)
top_end {A = A} {f} {xs} {at} {top} end so_far =
    let gone : drop at xs ≡ [] = rw end (drop-length xs) in
    let before : capped (max top (highest f (drop at xs))) ≡ capped (highest f xs) = so_far.whole in
    let none : highest f (drop at xs) ≡ 0 = ap (highest f) gone in
    let low : capped top ≡ top = so_far.low in
    omega arith
