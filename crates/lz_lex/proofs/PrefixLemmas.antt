-- The longest front that passes a test, choices, and searches.
use Rattle.std.proofs.Common.{◌≡◌, ℕ, zero, suc, ◌+◌, ◌<◌, ◌≤◌, Bool, true, false, List, [], ◌∷◌, length, take, drop, Option, Some, None, refl, sym, subst, ◌∙◌, arith, inl, inr}
use Rattle.std.specs.Prelude.{◌⊎◌, find}
use Rattle.std.specs.List.{prefix_len, list_all}
use Rattle.std.specs.Option.{option_or}
use Rattle.std.proofs.lemmas.Bool.{cases_Bool, cond-true, cond-false, and_parts, and_from}
use Rattle.lz_base.proofs.OptionLemmas.{if_some}
use Rattle.lz_tree.specs.Pieces.{begins}

-- ---- options

pub option_or-none : {A : Type 0} (o : Option A) → option_or o None ≡ o
option_or-none None = refl
option_or-none (Some x) = refl

pub option_cases : {A : Type 0} (o : Option A) → ((x : A) × (o ≡ Some x)) ⊎ (o ≡ None)
option_cases None = inr refl
option_cases (Some x) = inl (x, refl)

pub none_some : {A : Type 0} (x : A) (o : Option A) → o ≡ None → o ≡ Some x → ⊥
none_some x None e f = cc
none_some x (Some y) e f = cc

-- what is found passes the test, and whatever all pass
pub found : {A : Type 0} (p q : A → Bool) (xs : List A) (x : A) → find p xs ≡ Some x → list_all q xs ≡ true → (p x ≡ true) × (q x ≡ true)
found p q [] x e all = absurd cc
found {A = A} p q (y ∷ ys) x e all =
    let parts = and_parts (q y) (list_all q ys) all in
    elim (if_some (p y) (Some y) (find p ys) x e) [
      | inl here ↦ let same : y ≡ x = cc in (subst (λ (z : A). p z ≡ true) same here.0, subst (λ (z : A). q z ≡ true) same parts.0)
      | inr there ↦ found p q ys x there.1 parts.1
    ]

-- nothing is found where none passes
pub none_found : {A : Type 0} (p q : A → Bool) (xs : List A) → list_all q xs ≡ true → ((x : A) → q x ≡ true → p x ≡ true → ⊥) → find p xs ≡ None
none_found p q [] all never = refl
none_found p q (y ∷ ys) all never =
    let parts = and_parts (q y) (list_all q ys) all in
    elim (cases_Bool (p y)) [
      | inl pass ↦ absurd (never y parts.0 pass)
      | inr fail ↦ cond-false (p y) (Some y) (find p ys) fail ∙ none_found p q ys parts.1 never
    ]

-- ---- the longest front that passes a test

pub prefix-pass : (p : ℕ → Bool) (x : ℕ) (xs : List ℕ) → p x ≡ true → prefix_len p (x ∷ xs) ≡ suc (prefix_len p xs)
prefix-pass p x xs h = cond-true (p x) (1 + prefix_len p xs) 0 h ∙ omega arith

pub prefix-fail : (p : ℕ → Bool) (x : ℕ) (xs : List ℕ) → p x ≡ false → prefix_len p (x ∷ xs) ≡ 0
prefix-fail p x xs h = cond-false (p x) (1 + prefix_len p xs) 0 h

pub prefix-length : (p : ℕ → Bool) (xs : List ℕ) → prefix_len p xs ≤ length xs
prefix-length p [] = omega arith
prefix-length p (x ∷ xs) =
    elim (cases_Bool (p x)) [
      | inl pass ↦ omega (arith, prefix-pass p x xs pass, prefix-length p xs)
      | inr fail ↦ omega (arith, prefix-fail p x xs fail)
    ]

-- it passes the test
pub prefix_all : (p : ℕ → Bool) (xs : List ℕ) → list_all p (take (prefix_len p xs) xs) ≡ true
prefix_all p [] = refl
prefix_all p (x ∷ xs) =
    elim (cases_Bool (p x)) [
      | inl pass ↦ subst (λ (n : ℕ). list_all p (take n (x ∷ xs)) ≡ true) (sym (prefix-pass p x xs pass)) (and_from (p x) (list_all p (take (prefix_len p xs) xs)) pass (prefix_all p xs))
      | inr fail ↦ subst (λ (n : ℕ). list_all p (take n (x ∷ xs)) ≡ true) (sym (prefix-fail p x xs fail)) refl
    ]

-- a longer front does not
pub prefix_over : (p : ℕ → Bool) (xs : List ℕ) (m : ℕ) → prefix_len p xs < m → m ≤ length xs → list_all p (take m xs) ≡ false
prefix_over p [] m lt le = absurd (omega arith)
prefix_over p (x ∷ xs) zero lt le = absurd (omega arith)
prefix_over p (x ∷ xs) (suc m) lt le =
    elim (cases_Bool (p x)) [
      | inl pass ↦
          let more = prefix-pass p x xs pass in
          let tail : list_all p (take m xs) ≡ false = prefix_over p xs m (omega arith) (omega arith) in
          rw (pass, tail) refl
      | inr fail ↦ rw fail refl
    ]

-- inside it a passing byte comes next
pub prefix_inside : (p : ℕ → Bool) (xs : List ℕ) (m : ℕ) → m < prefix_len p xs → begins p (drop m xs) ≡ true
prefix_inside p [] m lt = absurd (omega arith)
prefix_inside p (x ∷ xs) zero lt =
    elim (cases_Bool (p x)) [ inl pass ↦ pass | inr fail ↦ absurd (omega (arith, prefix-fail p x xs fail)) ]
prefix_inside p (x ∷ xs) (suc m) lt =
    elim (cases_Bool (p x)) [
      | inl pass ↦ let more = prefix-pass p x xs pass in prefix_inside p xs m (omega arith)
      | inr fail ↦ absurd (omega (arith, prefix-fail p x xs fail))
    ]

-- behind it none does
pub prefix_behind : (p : ℕ → Bool) (xs : List ℕ) → begins p (drop (prefix_len p xs) xs) ≡ false
prefix_behind p [] = refl
prefix_behind p (x ∷ xs) =
    elim (cases_Bool (p x)) [
      | inl pass ↦ subst (λ (n : ℕ). begins p (drop n (x ∷ xs)) ≡ false) (sym (prefix-pass p x xs pass)) (prefix_behind p xs)
      | inr fail ↦ subst (λ (n : ℕ). begins p (drop n (x ∷ xs)) ≡ false) (sym (prefix-fail p x xs fail)) fail
    ]
