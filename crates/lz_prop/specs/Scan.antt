-- Inner: what searches through a clause find, by the tables.
use Rattle.std.specs.Prelude.{◌≡◌, ◌⊎◌, ℕ, ◌≤◌, Bool, true, false, List, slice_index, Option, Some, None}
use Rattle.std.specs.List.{All, Contains}
use Rattle.lz_cnf.specs.declared.clause.Lit.{Lit}
use Rattle.lz_cnf.specs.Models.{negated, variable_of}

abbrev pub IsMarkedTrue : List ℕ → Lit → Type 0
IsMarkedTrue truths lit = slice_index truths lit.0 ≡ 1

-- 1 stands at the literal in the other sign
abbrev pub IsMarkedFalse : List ℕ → Lit → Type 0
IsMarkedFalse truths lit = slice_index truths (negated lit).0 ≡ 1

-- all literals of the clause but this one are false
abbrev pub AreOthersFalse : List ℕ → List Lit → Lit → Type 0
AreOthersFalse truths clause lit = All (λ l. (l ≡ lit) ⊎ IsMarkedFalse truths l) clause

-- another literal than this, and not false
abbrev pub IsBeside : List ℕ → Lit → Lit → Bool → Type 0
IsBeside truths lit other true = (other ≡ lit → ⊥) × (IsMarkedFalse truths other → ⊥)
IsBeside truths lit other false = (other ≡ lit) ⊎ IsMarkedFalse truths other

-- a literal of the clause that is not false
pub record IsLeft (truths : List ℕ) (clause : List Lit) (lit : Lit) : Type 0 where
  pub has : Contains clause lit
  pub not_false : IsMarkedFalse truths lit → ⊥

abbrev pub IsLeftFound : List ℕ → List Lit → Option Lit → Type 0
IsLeftFound truths clause None = All (IsMarkedFalse truths) clause
IsLeftFound truths clause (Some lit) = IsLeft truths clause lit

-- another one that is not false
pub record IsOther (truths : List ℕ) (clause : List Lit) (lit other : Lit) : Type 0 where
  pub has : Contains clause other
  pub differs : other ≡ lit → ⊥
  pub not_false : IsMarkedFalse truths other → ⊥

abbrev pub IsOtherFound : List ℕ → List Lit → Lit → Option Lit → Type 0
IsOtherFound truths clause lit None = AreOthersFalse truths clause lit
IsOtherFound truths clause lit (Some other) = IsOther truths clause lit other

-- the literal that was set at the greater level; `lit` itself comes before all
abbrev pub IsBefore : List ℕ → Lit → Lit → Lit → Type 0
IsBefore levels lit other last = (other ≡ lit) ⊎ ((last ≡ lit → ⊥) × (slice_index levels (variable_of other) ≤ slice_index levels (variable_of last)))

pub record IsLater (levels : List ℕ) (lit last other now : Lit) : Type 0 where
  pub one : (now ≡ last) ⊎ (now ≡ other)
  pub past : IsBefore levels lit last now
  pub own : IsBefore levels lit other now

-- a literal of the clause behind which, by levels, none of these stands
pub record IsLast (levels : List ℕ) (clause seen : List Lit) (lit last : Lit) : Type 0 where
  pub has : Contains clause last
  pub before : All (λ l. IsBefore levels lit l last) seen
