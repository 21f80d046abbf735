-- Trusted: what a recheck of a proof text answers.
use Rattle.std.specs.Prelude.{◌≡◌, ℕ, List, ◌++◌, length, codes}
use Rattle.std.specs.Fmt.{decimal}
use Rattle.lz_cnf.specs.declared.clause.Cnf.{Cnf}
use Rattle.lz_log.specs.declared.log.LogStep.{LogStep}
use Rattle.lz_log.specs.Checking.{IsFirstBad}
use Rattle.lz_log.specs.ProofReading.{IsProofText, IsFirstBadLine}
use Rattle.lz_log.specs.Refutation.{Refutes}
use Rattle.lz_cli.specs.declared.recheck.Rechecked.{Rechecked}
use Rattle.lz_cli.specs.declared.recheck.Rechecked.TheVariants.{Refuted, BadLine, BadStep}

-- the most bytes that a proof file may have
abbrev pub proof_limit : ℕ
proof_limit = 268435456

-- the bytes are the text of a formula of so many clauses and of a log of so many steps, which refutes it
pub record IsRefutedText (bytes : List ℕ) (clauses steps : ℕ) : Type 0 where
  pub formula : Cnf
  pub log : List LogStep
  pub text : IsProofText bytes formula log
  pub refutes : Refutes formula log
  pub told_clauses : clauses ≡ length formula.clauses
  pub told_steps : steps ≡ length log

-- the bytes are the text of a formula and of a log whose first bad step has this index
pub record IsBadText (bytes : List ℕ) (index : ℕ) : Type 0 where
  pub formula : Cnf
  pub log : List LogStep
  pub text : IsProofText bytes formula log
  pub bad : IsFirstBad formula log index

-- the answer to these bytes is right
abbrev pub IsRechecked : List ℕ → Rechecked → Type 0
IsRechecked bytes (Refuted clauses steps) = IsRefutedText bytes clauses steps
IsRechecked bytes (BadLine line) = IsFirstBadLine bytes line
IsRechecked bytes (BadStep index) = IsBadText bytes index

-- the line of an answer
abbrev pub recheck_line : Rechecked → List ℕ
recheck_line (Refuted clauses steps) = codes "REFUTED formula " ++ decimal clauses ++ codes " log " ++ decimal steps ++ codes "\n"
recheck_line (BadLine line) = codes "TEXT line " ++ decimal line ++ codes "\n"
recheck_line (BadStep index) = codes "BADSTEP index " ++ decimal index ++ codes "\n"

-- its status
abbrev pub recheck_status : Rechecked → ℕ
recheck_status (Refuted clauses steps) = 0
recheck_status (BadLine line) = 10
recheck_status (BadStep index) = 11
