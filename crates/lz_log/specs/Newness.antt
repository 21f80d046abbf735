-- Inner: When a clause is new: unit propagation over the clauses before it could not have given it.
use Rattle.std.specs.Prelude.{◌≡◌, ◌⊎◌, List, [], ◌∷◌, ⊤}
use Rattle.std.specs.List.{All, Contains}
use Rattle.lz_cnf.specs.declared.clause.Lit.{Lit}
use Rattle.lz_cnf.specs.declared.clause.Cnf.{Cnf}
use Rattle.lz_cnf.specs.Models.{negated}
use Rattle.lz_cnf.specs.Partial.{IsFalseLit, IsUnassigned, IsConsistent, IsQuiet}
use Rattle.lz_log.specs.declared.log.LogStep.{LogStep}
use Rattle.lz_log.specs.Refutation.{known_clauses}

-- some assignment of a part of the variables makes all literals of the clause but one false, leaves that one
-- unassigned, and makes no known clause unit or false
pub record IsNewClause (known : List (List Lit)) (clause : List Lit) : Type 0 where
  pub true_ : List Lit
  pub left : Lit
  pub consistent : IsConsistent true_
  pub within : Contains clause left
  pub others : All (λ lit. (lit ≡ left) ⊎ IsFalseLit true_ lit) clause
  pub unassigned : IsUnassigned true_ left
  pub quiet : IsQuiet true_ known

-- the step's clause is new over the formula and the earlier steps
abbrev pub IsNewStep : Cnf → List LogStep → LogStep → Type 0
IsNewStep formula earlier step = IsNewClause (known_clauses formula earlier) step.clause

-- Literals that unit propagation sets where these are false, the latest first: each stands in a known clause whose other
-- literals are false, being among these or the negation of a literal that was set before.
abbrev pub IsPropagation : List (List Lit) → List Lit → List Lit → Type 0
IsPropagation known false_ [] = ⊤
IsPropagation known false_ (lit ∷ earlier) =
    IsPropagation known false_ earlier
    × (clause : List Lit) × Contains known clause × Contains clause lit
    × All (λ other. (other ≡ lit) ⊎ Contains false_ other ⊎ Contains earlier (negated other)) clause

-- these are literals of the clause other than this one
abbrev pub AreOthers : List Lit → Lit → List Lit → Type 0
AreOthers clause left false_ = All (λ lit. Contains clause lit × (lit ≡ left → ⊥)) false_
