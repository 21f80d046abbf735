-- Trusted: When a step of a log follows by its hints, and when a log refutes its formula.
use Rattle.std.specs.Prelude.{◌≡◌, ℕ, ◌<◌, ◌⊎◌, List, [], ◌∷◌, ◌++◌, map, ⊤}
use Rattle.std.specs.List.{All, Any, Contains}
use Rattle.lz_cnf.specs.declared.clause.Lit.{Lit}
use Rattle.lz_cnf.specs.declared.clause.Cnf.{Cnf}
use Rattle.lz_cnf.specs.Models.{variable_of, negated}
use Rattle.lz_cnf.specs.Partial.{IsNamed}
use Rattle.lz_log.specs.declared.log.LogStep.{LogStep}

-- Where these literals are false, the hints lead to a clause that is false: each hint but the last names a
-- clause with exactly one literal that is not false, which becomes true.
abbrev pub LeadsToFalse : List (List Lit) → List Lit → List ℕ → Type 0
LeadsToFalse known false_ [] = ⊥
LeadsToFalse known false_ (last ∷ []) =
    (clause : List Lit) × IsNamed known last clause × All (Contains false_) clause
LeadsToFalse known false_ (hint ∷ next ∷ hints) =
    (clause : List Lit) × (unit : Lit) × IsNamed known hint clause
    × Contains clause unit × (Contains false_ unit → ⊥) × All (λ lit. (lit ≡ unit) ⊎ Contains false_ lit) clause
    × LeadsToFalse known (negated unit ∷ false_) (next ∷ hints)

-- the clauses that a step may name
abbrev pub known_clauses : Cnf → List LogStep → List (List Lit)
known_clauses formula earlier = formula.clauses ++ map (λ step. step.clause) earlier

-- The clause follows from the known ones by the hints. No variable stands in it in both signs, and each is below
-- the number of variables.
pub record FollowsBy (count : ℕ) (known : List (List Lit)) (clause : List Lit) (by_ : List ℕ) : Type 0 where
  pub one_sign : All (λ lit. Contains clause (negated lit) → ⊥) clause
  pub variables : All (λ lit. variable_of lit < count) clause
  pub hints : LeadsToFalse known clause by_

-- the step follows by its hints
abbrev pub IsByHints : Cnf → List LogStep → LogStep → Type 0
IsByHints formula earlier step = FollowsBy formula.variables (known_clauses formula earlier) step.clause step.hints

-- each step follows by its hints
abbrev pub AreByHints : Cnf → List LogStep → List LogStep → Type 0
AreByHints formula earlier [] = ⊤
AreByHints formula earlier (step ∷ steps) =
    IsByHints formula earlier step × AreByHints formula (earlier ++ step ∷ []) steps

-- the log refutes the formula: each step follows by its hints, and some step is the empty clause
pub record Refutes (formula : Cnf) (log : List LogStep) : Type 0 where
  pub steps : AreByHints formula [] log
  pub empty : Any (λ step. step.clause ≡ []) log
