-- Trusted: what a proof text says, and the first line of any bytes that says nothing.
use Rattle.std.specs.Prelude.{◌≡◌, ◌⊎◌, ℕ, suc, ◌+◌, ◌<◌, ◌≤◌, List, [], ◌∷◌, ◌++◌, length, slice_index, codes, ⊤}
use Rattle.std.specs.List.{All, flat_map}
use Rattle.std.specs.Fmt.{decimal}
use Rattle.std.specs.Str.Parse.{IsNumeral, digits_value}
use Rattle.lz_cnf.specs.declared.clause.Lit.{Lit}
use Rattle.lz_cnf.specs.declared.clause.Cnf.{Cnf}
use Rattle.lz_cnf.specs.Models.{variable_of}
use Rattle.lz_log.specs.declared.log.LogStep.{LogStep}
use Rattle.lz_log.specs.ProofText.{clause_line, step_line, proof_text}

-- the most variables that a text may tell of
abbrev pub variable_limit : ℕ
variable_limit = 2147483647

-- these digits write this number; the first is 0 only where no other follows
pub record IsNumber (digits : List ℕ) (number : ℕ) : Type 0 where
  pub numeral : IsNumeral 10 digits
  pub first : slice_index digits 0 ≡ 48 → length digits ≡ 1
  pub value : digits_value 10 digits ≡ number

-- the first line: the number of variables, and the digits of the number of clauses
abbrev pub header_of : ℕ → List ℕ → List ℕ
header_of variables digits = codes "p cnf " ++ decimal variables ++ codes " " ++ digits ++ codes "\n"

-- each literal is of one of so many variables
abbrev pub IsWithin : ℕ → List Lit → Type 0
IsWithin variables clause = All (λ lit. variable_of lit < variables) clause

-- each hint names one of so many clauses
abbrev pub NameKnown : ℕ → List ℕ → Type 0
NameKnown known hints = All (λ hint. (1 ≤ hint) × (hint ≤ known)) hints

-- the step may stand behind so many clauses: its hints name only these
pub record MayFollow (variables known : ℕ) (step : LogStep) : Type 0 where
  pub clause : IsWithin variables step.clause
  pub hints : NameKnown known step.hints

-- each step may stand behind the clauses and the steps before it
abbrev pub AreInOrder : ℕ → ℕ → List LogStep → Type 0
AreInOrder variables known [] = ⊤
AreInOrder variables known (step ∷ steps) = MayFollow variables known step × AreInOrder variables (suc known) steps

-- a formula and a log that have a text
pub record IsTold (formula : Cnf) (log : List LogStep) : Type 0 where
  pub limit : formula.variables ≤ variable_limit
  pub within : All (IsWithin formula.variables) formula.clauses
  pub in_order : AreInOrder formula.variables (length formula.clauses) log

-- the bytes are the text of this formula and this log
pub record IsProofText (bytes : List ℕ) (formula : Cnf) (log : List LogStep) : Type 0 where
  pub told : IsTold formula log
  pub text : bytes ≡ proof_text formula log

-- The bytes begin with a first line, and `rest` is left of them. The line tells of `count` clauses.
pub record HasHeader (bytes : List ℕ) (variables count : ℕ) (rest : List ℕ) : Type 0 where
  pub digits : List ℕ
  pub number : IsNumber digits count
  pub limit : variables ≤ variable_limit
  pub text : bytes ≡ header_of variables digits ++ rest

-- The bytes begin with the lines of these clauses, and `rest` is left of them.
pub record HasClauses (bytes : List ℕ) (variables : ℕ) (clauses : List (List Lit)) (rest : List ℕ) : Type 0 where
  pub within : All (IsWithin variables) clauses
  pub text : bytes ≡ flat_map clause_line clauses ++ rest

-- The bytes begin with the lines of these steps, which stand behind `known` clauses, and `rest` is left of them.
pub record HasSteps (bytes : List ℕ) (variables known : ℕ) (log : List LogStep) (rest : List ℕ) : Type 0 where
  pub in_order : AreInOrder variables known log
  pub text : bytes ≡ flat_map step_line log ++ rest

-- the bytes begin with no first line
abbrev pub LacksHeader : List ℕ → Type 0
LacksHeader bytes = (variables count : ℕ) (rest : List ℕ) → HasHeader bytes variables count rest → ⊥

-- the bytes begin with no line of a clause
abbrev pub LacksClause : List ℕ → ℕ → Type 0
LacksClause bytes variables = (clause : List Lit) (rest : List ℕ) → HasClauses bytes variables (clause ∷ []) rest → ⊥

-- the bytes begin with no line of a step
abbrev pub LacksStep : List ℕ → ℕ → ℕ → Type 0
LacksStep bytes variables known = (step : LogStep) (rest : List ℕ) → HasSteps bytes variables known (step ∷ []) rest → ⊥

-- behind the first line and the lines of fewer clauses than it tells of, no line of a clause stands
pub record EndsInClauses (bytes : List ℕ) (line : ℕ) : Type 0 where
  pub variables : ℕ
  pub count : ℕ
  pub behind : List ℕ
  pub header : HasHeader bytes variables count behind
  pub clauses : List (List Lit)
  pub rest : List ℕ
  pub front : HasClauses behind variables clauses rest
  pub fewer : length clauses < count
  pub lacks : LacksClause rest variables
  pub number : line ≡ length clauses + 2

-- behind the first line, the lines of the clauses that it tells of and those of steps, something stands that is no line of a
-- step
pub record EndsInSteps (bytes : List ℕ) (line : ℕ) : Type 0 where
  pub variables : ℕ
  pub behind : List ℕ
  pub clauses : List (List Lit)
  pub header : HasHeader bytes variables (length clauses) behind
  pub middle : List ℕ
  pub front : HasClauses behind variables clauses middle
  pub log : List LogStep
  pub rest : List ℕ
  pub steps : HasSteps middle variables (length clauses) log rest
  pub left : rest ≡ [] → ⊥
  pub lacks : LacksStep rest variables (length clauses + length log)
  pub number : line ≡ length clauses + length log + 2

-- The first line that says nothing, counted from 1. Where the first line or the line of a clause is missing, it is the line
-- behind the last.
abbrev pub IsFirstBadLine : List ℕ → ℕ → Type 0
IsFirstBadLine bytes line = (LacksHeader bytes × (line ≡ 1)) ⊎ EndsInClauses bytes line ⊎ EndsInSteps bytes line
