-- Trusted: Assignments of a part of the variables, as the list of the literals that are true.
use Rattle.std.specs.Prelude.{◌≡◌, ◌⊎◌, ℕ, suc, zero, List, slice_get, Some}
use Rattle.std.specs.List.{All, Contains}
use Rattle.lz_cnf.specs.declared.clause.Lit.{Lit}
use Rattle.lz_cnf.specs.Models.{negated}

-- the true literals make this literal false
abbrev pub IsFalseLit : List Lit → Lit → Type 0
IsFalseLit true_ lit = Contains true_ (negated lit)

-- the variable of the literal has no value
abbrev pub IsUnassigned : List Lit → Lit → Type 0
IsUnassigned true_ lit = (Contains true_ lit → ⊥) × (Contains true_ (negated lit) → ⊥)

-- no variable has both values
abbrev pub IsConsistent : List Lit → Type 0
IsConsistent true_ = All (λ lit. Contains true_ (negated lit) → ⊥) true_

-- each literal of the clause is false
abbrev pub IsFalseClause : List Lit → List Lit → Type 0
IsFalseClause true_ clause = All (IsFalseLit true_) clause

-- all literals of the clause but one are false, and that one is unassigned. The clause is taken as a set
abbrev pub IsUnitClause : List Lit → List Lit → Type 0
IsUnitClause true_ clause =
    (unit : Lit) × Contains clause unit × IsUnassigned true_ unit
    × All (λ lit. (lit ≡ unit) ⊎ IsFalseLit true_ lit) clause

-- the clause is neither unit nor false. A record, so that tactics find its arguments
pub record IsOpen (true_ : List Lit) (clause : List Lit) : Type 0 where
  pub not_unit : IsUnitClause true_ clause → ⊥
  pub not_false : IsFalseClause true_ clause → ⊥

-- no clause is unit or false
abbrev pub IsQuiet : List Lit → List (List Lit) → Type 0
IsQuiet true_ clauses = All (IsOpen true_) clauses

-- the clause of this number, counted from 1
abbrev pub IsNamed : List (List Lit) → ℕ → List Lit → Type 0
IsNamed known zero clause = ⊥
IsNamed known (suc place) clause = slice_get known place ≡ Some clause
