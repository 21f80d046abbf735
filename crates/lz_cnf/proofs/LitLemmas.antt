-- Literals and their signs.
use Rattle.std.proofs.Common.{◌≡◌, ℕ, zero, suc, ◌+◌, ◌-◌, ◌/◌, ◌%◌, ◌⊎◌, inl, inr, ⊎_elim, Bool, true, false, not, cond, eqb, List, [], ◌∷◌, refl, ap, arith}
use Rattle.std.specs.List.{Contains}
use Rattle.std.proofs.lemmas.Bool.{eqb-true, eqb-false, cases_lt, cases_eq}
use Rattle.lz_cnf.specs.declared.clause.Lit.{Lit}
use Rattle.lz_cnf.specs.Models.{variable_of, is_negated, negated}

-- a literal is its number
pub same_lit : (one other : Lit) → one.0 ≡ other.0 → one ≡ other
same_lit one other e = ap (λ (n : ℕ). record { 0 = n }) e

-- the number in the other sign has the same half and the other remainder
sign_flips : (n : ℕ) (odd : Bool) → eqb (n % 2) 1 ≡ odd → (cond odd (n - 1) (n + 1) / 2 ≡ n / 2) × (eqb (cond odd (n - 1) (n + 1) % 2) 1 ≡ not odd)
sign_flips n true e =
    let one : n % 2 ≡ 1 = eqb-true (n % 2) 1 e in
    let even : (n - 1) % 2 ≡ 0 = omega arith in
    (omega arith, ap (λ (r : ℕ). eqb r 1) even)
sign_flips n false e =
    let not_one = eqb-false (n % 2) 1 e in
    let even : n % 2 ≡ 0 = omega (arith, not_one) in
    let one : (n + 1) % 2 ≡ 1 = omega arith in
    (omega arith, ap (λ (r : ℕ). eqb r 1) one)

-- the number of the literal in the other sign
flipped : ℕ → Bool → ℕ
flipped n odd = cond odd (n - 1) (n + 1)

-- twice the other sign is the first
back_again : (n : ℕ) (odd other : Bool) → eqb (n % 2) 1 ≡ odd → eqb (flipped n odd % 2) 1 ≡ other → flipped (flipped n odd) other ≡ n
unfolding flipped
back_again n true true e f = let one = eqb-true (n % 2) 1 e in let two = eqb-true ((n - 1) % 2) 1 f in omega arith
back_again n true false e f = let one = eqb-true (n % 2) 1 e in omega arith
back_again n false true e f = omega arith
back_again n false false e f =
    let one = eqb-false (n % 2) 1 e in let two = eqb-false ((n + 1) % 2) 1 f in absurd (omega (arith, one, two))

-- the negation is of the same variable
pub variable_of-negated : (lit : Lit) → variable_of (negated lit) ≡ variable_of lit
variable_of-negated lit = (sign_flips lit.0 (is_negated lit) refl).0

-- its sign is the other
pub is_negated-negated : (lit : Lit) → is_negated (negated lit) ≡ not (is_negated lit)
is_negated-negated lit = (sign_flips lit.0 (is_negated lit) refl).1

-- the negation of the negation is the literal
pub negated-negated : (lit : Lit) → negated (negated lit) ≡ lit
unfolding flipped
negated-negated lit = ap (λ (n : ℕ). let l : Lit = record { 0 = n } in l) (back_again lit.0 (is_negated lit) (is_negated (negated lit)) refl refl)

-- the number in the other sign is another
other_number : (n : ℕ) (odd : Bool) → eqb (n % 2) 1 ≡ odd → n ≡ cond odd (n - 1) (n + 1) → ⊥
other_number n true e h = let one = eqb-true (n % 2) 1 e in omega arith
other_number n false e h = omega arith

-- no literal is its own negation
pub ne_negated : (lit : Lit) → lit ≡ negated lit → ⊥
ne_negated lit h = other_number lit.0 (is_negated lit) refl (ap (λ (l : Lit). l.0) h)

-- literals of one variable are the same or negations
number_cases : (m n : ℕ) (odd : Bool) → eqb (n % 2) 1 ≡ odd → m / 2 ≡ n / 2 → (m ≡ n) ⊎ (m ≡ cond odd (n - 1) (n + 1))
number_cases m n true e h =
    let one = eqb-true (n % 2) 1 e in
    elim (cases_lt m n) [ inl lt ↦ inr (omega arith) | inr ge ↦ inl (omega arith) ]
number_cases m n false e h =
    let one = eqb-false (n % 2) 1 e in
    let even : n % 2 ≡ 0 = omega (arith, one) in
    elim (cases_lt n m) [ inl lt ↦ inr (omega arith) | inr ge ↦ inl (omega arith) ]

-- literals of one variable are the same, or one is the negation of the other
pub same_variable : (a b : Lit) → variable_of a ≡ variable_of b → (a ≡ b) ⊎ (a ≡ negated b)
same_variable a b h =
    ⊎_elim
    (λ e. inl (ap (λ (n : ℕ). let l : Lit = record { 0 = n } in l) e))
    (λ e. inr (ap (λ (n : ℕ). let l : Lit = record { 0 = n } in l) e))
    (number_cases a.0 b.0 (is_negated b) refl h)

-- a literal in a list that is not its first is in the rest
in_rest : (first lit : Lit) (rest : List Lit) → Contains (first ∷ rest) lit → (first.0 ≡ lit.0 → ⊥) → Contains rest lit
in_rest first lit rest (zero, lt, at) ne = absurd (ne (ap (λ (l : Lit). l.0) at))
in_rest first lit rest (suc k, lt, at) ne = (k, omega (arith, lt), at)

-- a list contains a literal or not
pub contains_or : (lits : List Lit) (lit : Lit) → Contains lits lit ⊎ (Contains lits lit → ⊥)
contains_or [] lit = inr (λ h. omega (arith, h.1))
contains_or (first ∷ rest) lit =
    elim (cases_eq first.0 lit.0) [
      | inl same ↦ inl (0, omega arith, same_lit first lit same)
      | inr ne ↦ elim (contains_or rest lit) [
        | inl (k, lt, at) ↦ inl (suc k, omega (arith, lt), at)
        | inr none ↦ inr (λ h. none (in_rest first lit rest h ne))
      ]
    ]
