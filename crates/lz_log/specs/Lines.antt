-- Inner: What stands at the front of bytes: literals, hints and whole lines.
use Rattle.std.specs.Prelude.{◌≡◌, ℕ, ◌+◌, ◌<◌, List, [], ◌++◌, length, codes, Result, Ok, Err, ⊤}
use Rattle.lz_cnf.specs.declared.clause.Lit.{Lit}
use Rattle.lz_cnf.specs.declared.clause.Cnf.{Cnf}
use Rattle.lz_cnf.specs.Models.{variable_of}
use Rattle.lz_log.specs.declared.log.LogStep.{LogStep}
use Rattle.lz_log.specs.declared.lines.Unread.{Unread}
use Rattle.lz_log.specs.declared.lines.Unread.TheVariants as unread
use Rattle.lz_log.specs.declared.proof_reading.ProofError.{ProofError}
use Rattle.lz_log.specs.declared.proof_reading.ProofError.TheVariants as errors
use Rattle.lz_log.specs.ProofText.{literal_text, clause_text, hints_text}
use Rattle.lz_log.specs.ProofReading.{IsWithin, NameKnown, HasHeader, HasClauses, HasSteps, LacksClause, LacksStep}
use Rattle.lz_log.specs.Pieces.{IsCapped}

-- what an error says of a reading: that there is none, unless memory was wanting
abbrev pub Lacks : Type 0 → Unread → Type 0
Lacks none unread.NoReading = none
Lacks none unread.Memory = ⊤

-- the bytes begin with a literal and a space
pub record HasLiteral (bytes : List ℕ) (variables : ℕ) (lit : Lit) (rest : List ℕ) : Type 0 where
  pub variable : variable_of lit < variables
  pub text : bytes ≡ literal_text lit ++ codes " " ++ rest

-- the bytes begin with literals and the 0 that ends them
pub record HasLiterals (bytes : List ℕ) (variables : ℕ) (clause : List Lit) (rest : List ℕ) : Type 0 where
  pub within : IsWithin variables clause
  pub text : bytes ≡ clause_text clause ++ rest

-- the bytes begin with hints and the 0 that ends them
pub record HasHints (bytes : List ℕ) (known : ℕ) (hints : List ℕ) (rest : List ℕ) : Type 0 where
  pub known_ : NameKnown known hints
  pub text : bytes ≡ hints_text hints ++ rest

-- a first line whose number of clauses is told up to the cap
pub record TellsHeader (bytes : List ℕ) (variables told : ℕ) (rest : List ℕ) : Type 0 where
  pub count : ℕ
  pub header : HasHeader bytes variables count rest
  pub capped : IsCapped told count

-- which line of clauses was bad: behind those of fewer clauses than were told of
pub record IsBadClause (bytes : List ℕ) (variables told line : ℕ) : Type 0 where
  pub clauses : List (List Lit)
  pub rest : List ℕ
  pub front : HasClauses bytes variables clauses rest
  pub fewer : length clauses < told
  pub lacks : LacksClause rest variables
  pub number : line ≡ length clauses + 2

-- which line of steps was bad
pub record IsBadStep (bytes : List ℕ) (variables known line : ℕ) : Type 0 where
  pub log : List LogStep
  pub rest : List ℕ
  pub steps : HasSteps bytes variables known log rest
  pub left : rest ≡ [] → ⊥
  pub lacks : LacksStep rest variables (known + length log)
  pub number : line ≡ known + length log + 2

-- an error at one of these lines
abbrev pub IsAt : (ℕ → Type 0) → ProofError → Type 0
IsAt bad (errors.Bad line) = bad line
IsAt bad errors.Memory = ⊤

-- the error where this line was not read
abbrev pub error_at : ℕ → Unread → ProofError
error_at line unread.NoReading = errors.Bad line
error_at line unread.Memory = errors.Memory

-- what was read is this formula and this log, unless memory was wanting
abbrev pub ReadsBack : Cnf → List LogStep → Result (Cnf × List LogStep) ProofError → Type 0
ReadsBack formula log (Ok r) = (r.0 ≡ formula) × (r.1 ≡ log)
ReadsBack formula log (Err e) = e ≡ errors.Memory
