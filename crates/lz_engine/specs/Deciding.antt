-- Inner: what the decision of a flat program says.
use Rattle.std.specs.Prelude.{◌≡◌, ℕ, ◌*◌, ◌+◌, ◌<◌, ◌≤◌, ◌↔◌, Bool, List, length}
use Rattle.lz_base.specs.Words.{value_bound}
use Rattle.lz_cnf.specs.declared.clause.Lit.{Lit}
use Rattle.lz_cnf.specs.declared.clause.Cnf.{Cnf}
use Rattle.lz_cnf.specs.Models.{IsFormula, IsModel, HasModel, NoneEmpty}
use Rattle.lz_flat.specs.Programs.{FlatProgram, StraightProgram, straight_program, instructions}
use Rattle.lz_flat.specs.FlatRuns.{FlatBroken, DrivesBreak}
use Rattle.lz_flat.specs.Weight.{flat_weight}
use Rattle.lz_lazy.specs.Sequential.{FailsAsDriven, FailsWhereBroken}
use Rattle.lz_blast.specs.Formulas.{told_input}
use Rattle.lz_log.specs.declared.log.LogStep.{LogStep}
use Rattle.lz_solve.specs.Solving.{IsRefuted, IsSpent}
use Rattle.lz_engine.specs.declared.decide.Decision.{Decision}
use Rattle.lz_engine.specs.declared.decide.Decision.TheVariants.{Broken, Unbroken, Open}

-- the most conflicts that a search may spend
abbrev pub greatest_conflicts : ℕ
greatest_conflicts = 1000000

-- The straight program fails exactly where the flat one breaks within so many rounds, as the inputs drive it, and
-- has three statements for each instruction and twelve for each thread, a round.
pub record IsSequential (flat : FlatProgram) (rounds : ℕ) (straight : StraightProgram) : Type 0 where
  pub driven : FailsAsDriven flat rounds straight
  pub broken_ : FailsWhereBroken flat rounds straight
  pub size : length straight.list ≡ 3 * rounds * (instructions flat.threads + 4 * length flat.threads)

-- The formula has a model exactly where the flat program breaks within so many rounds, and no more variables than
-- so many times the program's weight.
pub record IsFormulaOf (flat : FlatProgram) (rounds : ℕ) (straight : StraightProgram) (formula : Cnf) : Type 0 where
  pub sequential : IsSequential flat rounds straight
  pub is : IsFormula formula
  pub not_empty : NoneEmpty formula.clauses
  pub exact : HasModel formula ↔ FlatBroken flat rounds
  pub variables : formula.variables ≤ rounds * flat_weight flat

-- each model tells inputs that drive a break, and they are words
pub record TellsBreaks (flat : FlatProgram) (rounds : ℕ) (formula : Cnf) (inputs : List (List Lit)) : Type 0 where
  pub drives : (values : List Bool) → IsModel formula values → DrivesBreak flat rounds (told_input values inputs)
  pub range : (values : List Bool) (i : ℕ) → told_input values inputs i < value_bound

-- what was made of the flat program before the search: there is room for the clauses that it learns
pub record Encodes (flat : FlatProgram) (rounds : ℕ) (straight : StraightProgram) (formula : Cnf) (inputs : List (List Lit)) : Type 0 where
  pub of : IsFormulaOf flat rounds straight formula
  pub tells : TellsBreaks flat rounds formula inputs
  pub room : length formula.clauses + greatest_conflicts < value_bound

-- the model tells inputs that drive a break, so a run of at most so many rounds breaks
pub record IsBrokenBy (flat : FlatProgram) (rounds : ℕ) (formula : Cnf) (inputs : List (List Lit)) (model : List Bool) : Type 0 where
  pub model_ : IsModel formula model
  pub tells : TellsBreaks flat rounds formula inputs
  pub broken_ : FlatBroken flat rounds

-- the log refutes the formula, so no run of at most so many rounds breaks
pub record IsUnbroken (flat : FlatProgram) (rounds conflicts : ℕ) (straight : StraightProgram) (formula : Cnf) (log : List LogStep) : Type 0 where
  pub of : IsFormulaOf flat rounds straight formula
  pub refuted : IsRefuted formula conflicts log
  pub unbroken : FlatBroken flat rounds → ⊥

-- the search spent its conflicts, and learnt a new clause with each
pub record IsOpen (flat : FlatProgram) (rounds conflicts : ℕ) (straight : StraightProgram) (formula : Cnf) (log : List LogStep) : Type 0 where
  pub of : IsFormulaOf flat rounds straight formula
  pub spent : IsSpent formula conflicts log

-- what the decision says
abbrev pub IsDecision : FlatProgram → ℕ → ℕ → Decision → Type 0
IsDecision flat rounds conflicts (Broken blasted model) = IsBrokenBy flat rounds blasted.formula blasted.inputs model
IsDecision flat rounds conflicts (Unbroken straight formula log) = IsUnbroken flat rounds conflicts (straight_program straight) formula log
IsDecision flat rounds conflicts (Open straight formula log) = IsOpen flat rounds conflicts (straight_program straight) formula log
