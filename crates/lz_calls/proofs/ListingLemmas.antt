-- What the items of a list give, one after the other.
use Rattle.std.proofs.Common.{◌≡◌, ℕ, suc, ◌+◌, ◌<◌, List, [], ◌∷◌, ◌++◌, length, drop, get_or, map, refl, ap, sym, ◌∙◌, append_assoc, add-one}
use Rattle.std.proofs.lemmas.List.{append-nil}
use Rattle.std.proofs.Math.Seq.{drop-cons, drop-length}
use Rattle.lz_tree.specs.ScopedTrees.{ScopedExpression, scoped_expressions_of, ScopedInitDeclarator, ScopedStatement, scoped_statements_of, ScopedDefinition}
use Rattle.lz_tree.specs.Calls.{expression_calls, expressions_calls, optional_calls, initializer_calls, declarators_calls, statement_calls, statements_calls}
use Rattle.lz_calls.specs.Calls.{graph_of}

-- what the items of a list give
abbrev pub joined : {A B : Type 0} → (A → List B) → List A → List B
joined f [] = []
joined f (x ∷ rest) = f x ++ joined f rest

-- the functions that expressions in a list call
pub expressions_calls-of : {A : Type 0} (f : A → ScopedExpression) (xs : List A) → expressions_calls (scoped_expressions_of (map f xs)) ≡ joined (λ x. expression_calls (f x)) xs
expressions_calls-of f [] = refl
expressions_calls-of f (x ∷ rest) = ap (λ ys. expression_calls (f x) ++ ys) (expressions_calls-of f rest)

-- those that declarators in a list call
pub declarators_calls-of : {A : Type 0} (f : A → ScopedInitDeclarator) (xs : List A) → declarators_calls (map f xs) ≡ joined (λ x. optional_calls (f x).length ++ initializer_calls (f x).first) xs
declarators_calls-of f [] = refl
declarators_calls-of f (x ∷ rest) =
    sym (append_assoc (optional_calls (f x).length) (initializer_calls (f x).first) (declarators_calls (map f rest)))
    ∙ ap (λ ys. (optional_calls (f x).length ++ initializer_calls (f x).first) ++ ys) (declarators_calls-of f rest)

-- those that statements in a list call
pub statements_calls-of : {A : Type 0} (f : A → ScopedStatement) (xs : List A) → statements_calls (scoped_statements_of (map f xs)) ≡ joined (λ x. statement_calls (f x)) xs
statements_calls-of f [] = refl
statements_calls-of f (x ∷ rest) = ap (λ ys. statement_calls (f x) ++ ys) (statements_calls-of f rest)

-- the rows of functions in a list
pub graph_of-of : {A : Type 0} (f : A → ScopedDefinition) (xs : List A) → graph_of (map f xs) ≡ joined (λ x. statement_calls (f x).body ∷ []) xs
graph_of-of f [] = refl
graph_of-of f (x ∷ rest) = ap (λ ys. statement_calls (f x).body ∷ ys) (graph_of-of f rest)

-- What was given so far and what the items that are left give is the whole.
pub record IsSoFar {A B : Type 0} (f : A → List B) (xs : List A) (start : List B) (at : ℕ) (now : List B) : Type 0 where
  pub whole : now ++ joined f (drop at xs) ≡ start ++ joined f xs

pub so_far_start : {A B : Type 0} (f : A → List B) (xs : List A) (start : List B) → IsSoFar f xs start 0 start
so_far_start f xs start = record { whole = refl }

here : {A B : Type 0} (f : A → List B) (xs : List A) (at : ℕ) (x : A) → at < length xs → x ≡ get_or xs at x → joined f (drop at xs) ≡ f x ++ joined f (drop (at + 1) xs)
here {A = A} f xs at x lt is =
    let cut : drop at xs ≡ get_or xs at x ∷ drop (suc at) xs = drop-cons xs at x lt in
    let one : at + 1 ≡ suc at = add-one at in
    rw (cut, ← is, one) refl

-- one turn
pub so_far_turn : {A B : Type 0} (f : A → List B) (xs : List A) (start : List B) (at : ℕ) (now new : List B) (x : A) → at < length xs → x ≡ get_or xs at x → IsSoFar f xs start at now → new ≡ now ++ f x → IsSoFar f xs start (at + 1) new
so_far_turn f xs start at now new x lt is so_far made =
    record {
      whole =
          ap (λ ys. ys ++ joined f (drop (at + 1) xs)) made
          ∙ append_assoc now (f x) (joined f (drop (at + 1) xs))
          ∙ ap (λ ys. now ++ ys) (sym (here f xs at x lt is))
          ∙ so_far.whole;
    }

-- at the end it is the whole
pub so_far_end : {A B : Type 0} {f : A → List B} {xs : List A} {start : List B} {at : ℕ} {now : List B} → at ≡ length xs → IsSoFar f xs start at now → now ≡ start ++ joined f xs
so_far_end {f} {xs} {at} {now} end so_far =
    let gone : drop at xs ≡ [] = rw end (drop-length xs) in
    sym (append-nil now) ∙ ap (λ ys. now ++ joined f ys) (sym gone) ∙ so_far.whole
