-- The first choice in a list: none so far, and that of what is left is that of the whole.
use Rattle.std.proofs.Common.{◌≡◌, ℕ, suc, ◌+◌, ◌<◌, List, [], ◌∷◌, length, drop, get_or, map, Option, Some, None, refl, sym, ap, ◌∙◌, add-one}
use Rattle.std.proofs.Math.Seq.{drop-cons, drop-length}
use Rattle.lz_tree.specs.ScopedTrees.{ScopedExpression, scoped_expressions_of, ScopedInitDeclarator, ScopedStatement, scoped_statements_of, ScopedDefinition}
use Rattle.lz_choices.specs.Choices.{first_of_two, in_expression, in_expressions, in_declarator, in_declarators, in_statement, in_statements, in_functions}

-- the first choice in a list of parts
abbrev pub first_in : {A : Type 0} → (A → Option ℕ) → List A → Option ℕ
first_in f [] = None
first_in f (x ∷ xs) = first_of_two (f x) (first_in f xs)

pub expressions_of : {A : Type 0} (f : A → ScopedExpression) (xs : List A) → in_expressions (scoped_expressions_of (map f xs)) ≡ first_in (λ x. in_expression (f x)) xs
expressions_of f [] = refl
expressions_of f (x ∷ rest) = ap (λ o. first_of_two (in_expression (f x)) o) (expressions_of f rest)

pub statements_of : {A : Type 0} (f : A → ScopedStatement) (xs : List A) → in_statements (scoped_statements_of (map f xs)) ≡ first_in (λ x. in_statement (f x)) xs
statements_of f [] = refl
statements_of f (x ∷ rest) = ap (λ o. first_of_two (in_statement (f x)) o) (statements_of f rest)

pub declarators_of : {A : Type 0} (f : A → ScopedInitDeclarator) (xs : List A) → in_declarators (map f xs) ≡ first_in (λ x. in_declarator (f x)) xs
declarators_of f [] = refl
declarators_of f (x ∷ rest) = ap (λ o. first_of_two (in_declarator (f x)) o) (declarators_of f rest)

pub functions_of : {A : Type 0} (f : A → ScopedDefinition) (xs : List A) → in_functions (map f xs) ≡ first_in (λ x. in_statement (f x).body) xs
functions_of f [] = refl
functions_of f (x ∷ rest) = ap (λ o. first_of_two (in_statement (f x).body) o) (functions_of f rest)

-- What a walk keeps: it found nothing so far, and what is left has the first choice of the whole.
pub record IsLeft {A : Type 0} (f : A → Option ℕ) (xs : List A) (at : ℕ) : Type 0 where
  pub same : first_in f (drop at xs) ≡ first_in f xs

pub walk_start : {A : Type 0} (f : A → Option ℕ) (xs : List A) → IsLeft f xs 0
walk_start f xs = record { same = refl }

here : {A : Type 0} (f : A → Option ℕ) (xs : List A) (at : ℕ) (x : A) → at < length xs → x ≡ get_or xs at x → first_in f (drop at xs) ≡ first_of_two (f x) (first_in f (drop (at + 1) xs))
here {A = A} f xs at x lt is =
    let cut : drop at xs ≡ get_or xs at x ∷ drop (suc at) xs = drop-cons xs at x lt in
    let one : at + 1 ≡ suc at = add-one at in
    rw (cut, ← is, one) refl

-- one turn, where the part has no choice
pub walk_turn : {A : Type 0} (f : A → Option ℕ) (xs : List A) (at : ℕ) (found : Option ℕ) (x : A) → at < length xs → x ≡ get_or xs at x → IsLeft f xs at → found ≡ f x → found ≡ None → IsLeft f xs (at + 1)
walk_turn f xs at found x lt is kept one none =
    record { same = ap (λ o. first_of_two o (first_in f (drop (at + 1) xs))) (sym none ∙ one) ∙ (sym (here f xs at x lt is) ∙ kept.same) }

-- where the part has one, it is that of the whole
pub walk_found : {A : Type 0} {f : A → Option ℕ} {xs : List A} {at : ℕ} {found : Option ℕ} {line : ℕ} {x : A} → at < length xs → x ≡ get_or xs at x → IsLeft f xs at → found ≡ f x → found ≡ Some line → Some line ≡ first_in f xs
walk_found {f} {xs} {at} {x} lt is kept one some =
    ap (λ o. first_of_two o (first_in f (drop (at + 1) xs))) (sym some ∙ one) ∙ (sym (here f xs at x lt is) ∙ kept.same)

-- at the end there is none
pub walk_end : {A : Type 0} {f : A → Option ℕ} {xs : List A} {at : ℕ} → at ≡ length xs → IsLeft f xs at → None ≡ first_in f xs
walk_end {A = A} {f} {xs} {at} end kept =
    let gone : drop at xs ≡ [] = rw end (drop-length xs) in
    ap (λ (ys : List A). first_in f ys) (sym gone) ∙ kept.same
