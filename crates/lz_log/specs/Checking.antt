-- Trusted: The first step of a log that does not check.
use Rattle.std.specs.Prelude.{◌≡◌, ◌↔◌, ℕ, ◌<◌, ◌≤◌, List, [], ◌∷◌, take, length, slice_index_or}
use Rattle.std.specs.List.{All, Any, Contains}
use Rattle.lz_cnf.specs.declared.clause.Lit.{Lit}
use Rattle.lz_cnf.specs.declared.clause.Cnf.{Cnf}
use Rattle.lz_cnf.specs.Models.{variable_of, negated}
use Rattle.lz_log.specs.declared.log.LogStep.{LogStep}
use Rattle.lz_log.specs.Refutation.{AreByHints, IsByHints, LeadsToFalse}

-- The least index of a step that does not follow by its hints; the log's length where each follows and none is the
-- empty clause.
pub record IsFirstBad (formula : Cnf) (log : List LogStep) (index : ℕ) : Type 0 where
  pub within : index ≤ length log
  pub before : AreByHints formula [] (take index log)
  pub bad : (other : LogStep) → index < length log → IsByHints formula (take index log) (slice_index_or log index other) → ⊥
  pub none_empty : index ≡ length log → Any (λ step. step.clause ≡ []) log → ⊥

-- each literal's variable is below the number of variables
abbrev pub AreBelow : ℕ → List (List Lit) → Type 0
AreBelow count clauses = All (λ clause. All (λ lit. variable_of lit < count) clause) clauses

-- a clause that a step may have: no variable in both signs, and each below the number of variables
pub record IsProper (count : ℕ) (clause : List Lit) : Type 0 where
  pub one_sign : All (λ lit. Contains clause (negated lit) → ⊥) clause
  pub variables : All (λ lit. variable_of lit < count) clause

-- behind the hint a check goes on with other literals that are false
pub record GoesOn (known : List (List Lit)) (false_ more : List Lit) (hint : ℕ) : Type 0 where
  pub rest : (next : ℕ) (hints : List ℕ) → LeadsToFalse known false_ (hint ∷ next ∷ hints) ↔ LeadsToFalse known more (next ∷ hints)

-- no check goes on behind the hint
pub record Stops (known : List (List Lit)) (false_ : List Lit) (hint : ℕ) : Type 0 where
  pub never : (next : ℕ) (hints : List ℕ) → LeadsToFalse known false_ (hint ∷ next ∷ hints) → ⊥

-- the hints lead to a false clause. A record, so that tactics find its arguments
pub record Leads (known : List (List Lit)) (false_ : List Lit) (hints : List ℕ) : Type 0 where
  pub leads : LeadsToFalse known false_ hints
