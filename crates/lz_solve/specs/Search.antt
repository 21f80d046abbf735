-- Inner: the state of the search between its turns.
use Rattle.std.specs.Prelude.{◌≡◌, ◌≢◌, ℕ, ◌<◌, ◌≤◌, Bool, true, false, List, [], ◌∷◌, ◌++◌, length, Option, Some, None}
use Rattle.lz_cnf.specs.declared.clause.Cnf.{Cnf}
use Rattle.lz_cnf.specs.Models.{variable_bound}
use Rattle.lz_log.specs.declared.log.LogStep.{LogStep}
use Rattle.lz_log.specs.Refutation.{known_clauses, FollowsBy}
use Rattle.lz_log.specs.Newness.{IsNewClause}
use Rattle.lz_prop.specs.Trail.{Entry, TrailState, IsTrail, entry_of, value_in}
use Rattle.lz_solve.specs.Solving.{AreNewSteps}

-- the variables below this one have values
abbrev pub AreAssigned : List Entry → ℕ → Type 0
AreAssigned set count = (v : ℕ) → v < count → (value : Bool) × (value_in (entry_of set v) ≡ Some value)

-- the trail keeps the formula's clauses and those of the log, and conflicts are left
pub record IsSearch (formula : Cnf) (conflicts : ℕ) (s : TrailState) (log : List LogStep) : Type 0 where
  pub trail : IsTrail s
  pub few : formula.variables ≤ variable_bound
  pub variables : s.variables ≡ formula.variables
  pub clauses : s.clauses ≡ known_clauses formula log
  pub steps : AreNewSteps formula log
  pub left : length log < conflicts

-- one more step follows from what was kept
pub record IsStepOf (s : TrailState) (log new : List LogStep) (step : LogStep) : Type 0 where
  pub pushed : new ≡ log ++ step ∷ []
  pub follows : FollowsBy s.variables s.clauses step.clause step.hints

-- what a conflict leaves: an empty clause, or a new clause that is kept
abbrev pub IsLearntInto : TrailState → List LogStep → TrailState → List LogStep → Bool → Type 0
IsLearntInto s log t new true = (step : LogStep) × IsStepOf s log new step × (step.clause ≡ [])
IsLearntInto s log t new false =
    (step : LogStep) × IsStepOf s log new step × (step.clause ≢ []) × IsNewClause s.clauses step.clause
    × IsTrail t × (t.variables ≡ s.variables) × (t.clauses ≡ s.clauses ++ step.clause ∷ [])

-- a variable without a value, or none where all have values
abbrev pub IsFree : List Entry → ℕ → Option ℕ → Type 0
IsFree set count None = AreAssigned set count
IsFree set count (Some v) = (v < count) × (value_in (entry_of set v) ≡ None)
