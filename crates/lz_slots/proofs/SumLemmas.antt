-- Sums over a list, item by item, that stop at the greatest number.
use Rattle.std.proofs.Common.{◌≡◌, ℕ, suc, ◌+◌, ◌<◌, List, [], ◌∷◌, length, drop, get_or, map, refl, ap, arith, add-one}
use Rattle.std.proofs.Math.Seq.{drop-cons, drop-length}
use Rattle.lz_tree.specs.ScopedTrees.{ScopedExpression, scoped_expressions_of, ScopedInitDeclarator, ScopedStatement, scoped_statements_of}
use Rattle.lz_slots.specs.Nesting.{saturated}
use Rattle.lz_slots.specs.Slots.{SiteRates, expression_sites, expressions_sites, statement_sites, statements_sites, declarator_sites, declarators_sites}
use Rattle.lz_slots.specs.Costs.{Rates, expression_cost, expressions_cost, statement_cost, statements_cost, declarator_cost, declarators_cost}

-- the sum of the numbers of a list's items
abbrev pub total : {A : Type 0} → (A → ℕ) → List A → ℕ
total f [] = 0
total f (x ∷ rest) = f x + total f rest

-- the cost of expressions in a list
pub expressions_cost-of : {A : Type 0} (r : Rates) (f : A → ScopedExpression) (xs : List A) → expressions_cost r (scoped_expressions_of (map f xs)) ≡ total (λ x. expression_cost r (f x)) xs
expressions_cost-of r f [] = refl
expressions_cost-of r f (x ∷ rest) = ap (λ n. expression_cost r (f x) + n) (expressions_cost-of r f rest)

-- that of declarators in a list
pub declarators_cost-of : {A : Type 0} (r : Rates) (f : A → ScopedInitDeclarator) (xs : List A) → declarators_cost r (map f xs) ≡ total (λ x. declarator_cost r (f x)) xs
declarators_cost-of r f [] = refl
declarators_cost-of r f (x ∷ rest) = ap (λ n. declarator_cost r (f x) + n) (declarators_cost-of r f rest)

-- that of statements in a list
pub statements_cost-of : {A : Type 0} (r : Rates) (f : A → ScopedStatement) (xs : List A) → statements_cost r (scoped_statements_of (map f xs)) ≡ total (λ x. statement_cost r (f x)) xs
statements_cost-of r f [] = refl
statements_cost-of r f (x ∷ rest) = ap (λ n. statement_cost r (f x) + n) (statements_cost-of r f rest)

-- the sites of expressions in a list
pub expressions_sites-of : {A : Type 0} (r : SiteRates) (f : A → ScopedExpression) (xs : List A) → expressions_sites r (scoped_expressions_of (map f xs)) ≡ total (λ x. expression_sites r (f x)) xs
expressions_sites-of r f [] = refl
expressions_sites-of r f (x ∷ rest) = ap (λ n. expression_sites r (f x) + n) (expressions_sites-of r f rest)

-- that of declarators in a list
pub declarators_sites-of : {A : Type 0} (r : SiteRates) (f : A → ScopedInitDeclarator) (xs : List A) → declarators_sites r (map f xs) ≡ total (λ x. declarator_sites r (f x)) xs
declarators_sites-of r f [] = refl
declarators_sites-of r f (x ∷ rest) = ap (λ n. declarator_sites r (f x) + n) (declarators_sites-of r f rest)

-- that of statements in a list
pub statements_sites-of : {A : Type 0} (r : SiteRates) (f : A → ScopedStatement) (xs : List A) → statements_sites r (scoped_statements_of (map f xs)) ≡ total (λ x. statement_sites r (f x)) xs
statements_sites-of r f [] = refl
statements_sites-of r f (x ∷ rest) = ap (λ n. statement_sites r (f x) + n) (statements_sites-of r f rest)

-- What a sum keeps: the sum so far and that of the items that are left give the whole, however far it counts.
pub record IsSumSoFar {A : Type 0} (f : A → ℕ) (xs : List A) (at sum : ℕ) : Type 0 where
  pub whole : saturated (sum + total f (drop at xs)) ≡ saturated (total f xs)
  pub low : saturated sum ≡ sum

pub sum_start : {A : Type 0} (f : A → ℕ) (xs : List A) → IsSumSoFar f xs 0 0
sum_start f xs = record { whole = ap saturated (omega arith); low = refl }

here : {A : Type 0} (f : A → ℕ) (xs : List A) (at : ℕ) (x : A) → at < length xs → x ≡ get_or xs at x → total f (drop at xs) ≡ f x + total f (drop (at + 1) xs)
here {A = A} f xs at x lt is =
    let cut : drop at xs ≡ get_or xs at x ∷ drop (suc at) xs = drop-cons xs at x lt in
    let one : at + 1 ≡ suc at = add-one at in
    rw (cut, ← is, one) refl

-- one turn
pub sum_turn : {A : Type 0} (f : A → ℕ) (xs : List A) (at sum new item : ℕ) (x : A) → at < length xs → x ≡ get_or xs at x → IsSumSoFar f xs at sum → item ≡ saturated (f x) → new ≡ saturated (sum + item) → IsSumSoFar f xs (at + 1) new
sum_turn f xs at sum new item x lt is so_far one made =
    let now : total f (drop at xs) ≡ f x + total f (drop (at + 1) xs) = here f xs at x lt is in
    let before : saturated (sum + total f (drop at xs)) ≡ saturated (total f xs) = so_far.whole in
    record { whole = omega arith; low = omega arith }

-- at the end it is the whole
pub sum_end : {A : Type 0} {f : A → ℕ} {xs : List A} {at sum : ℕ} → at ≡ length xs → IsSumSoFar f xs at sum → sum ≡ saturated (total f xs)
sum_end {A = A} {f} {xs} {at} {sum} end so_far =
    let gone : drop at xs ≡ [] = rw end (drop-length xs) in
    let before : saturated (sum + total f (drop at xs)) ≡ saturated (total f xs) = so_far.whole in
    let none : total f (drop at xs) ≡ 0 = ap (total f) gone in
    let low : saturated sum ≡ sum = so_far.low in
    omega arith
