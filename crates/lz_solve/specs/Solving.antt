-- Trusted: what the search answers: a model, a log that refutes, or exactly the budget of new clauses.
use Rattle.std.specs.Prelude.{◌≡◌, ◌≢◌, ℕ, ◌<◌, ◌≤◌, ◌^◌, List, [], take, length, slice_index_or}
use Rattle.std.specs.List.{All}
use Rattle.lz_cnf.specs.declared.clause.Cnf.{Cnf}
use Rattle.lz_cnf.specs.Models.{IsModel}
use Rattle.lz_log.specs.declared.log.LogStep.{LogStep}
use Rattle.lz_log.specs.Refutation.{LeadsToFalse, AreByHints, Refutes}
use Rattle.lz_log.specs.Newness.{IsNewStep}
use Rattle.lz_solve.specs.declared.search.Solved.{Solved}
use Rattle.lz_solve.specs.declared.search.Solved.TheVariants.{Sat, Unsat, Spent}

-- each step follows by its hints, is new and is not empty
pub record AreNewSteps (formula : Cnf) (log : List LogStep) : Type 0 where
  pub by_hints : AreByHints formula [] log
  pub new : (i : ℕ) (d : LogStep) → i < length log → IsNewStep formula (take i log) (slice_index_or log i d)
  pub not_empty : All (λ step. step.clause ≢ []) log

-- A search that spent its conflicts: exactly so many steps. There are no more sets of literals over the variables, and
-- unit propagation without a decision makes no clause of the formula false.
pub record IsSpent (formula : Cnf) (conflicts : ℕ) (log : List LogStep) : Type 0 where
  pub exact : length log ≡ conflicts
  pub steps : AreNewSteps formula log
  pub bounded : conflicts < 3 ^ formula.variables
  pub not_propagated : (by_ : List ℕ) → LeadsToFalse formula.clauses [] by_ → ⊥

-- a log that refutes, of at most so many steps
pub record IsRefuted (formula : Cnf) (conflicts : ℕ) (log : List LogStep) : Type 0 where
  pub refutes : Refutes formula log
  pub within : length log ≤ conflicts

abbrev pub IsSolved : Cnf → ℕ → Solved → Type 0
IsSolved formula conflicts (Sat values) = IsModel formula values
IsSolved formula conflicts (Unsat log) = IsRefuted formula conflicts log
IsSolved formula conflicts (Spent log) = IsSpent formula conflicts log
