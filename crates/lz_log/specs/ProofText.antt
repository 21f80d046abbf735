-- Trusted: The text of a formula and its log.
use Rattle.std.specs.Prelude.{ℕ, ◌+◌, List, [], ◌++◌, length, codes, if◌then◌else◌}
use Rattle.std.specs.List.{flat_map}
use Rattle.std.specs.Fmt.{decimal}
use Rattle.lz_cnf.specs.declared.clause.Lit.{Lit}
use Rattle.lz_cnf.specs.declared.clause.Cnf.{Cnf}
use Rattle.lz_cnf.specs.Models.{variable_of, is_negated}
use Rattle.lz_log.specs.declared.log.LogStep.{LogStep}

-- a literal: the number of its variable, from 1 on, behind a minus sign where it is negated
abbrev pub literal_text : Lit → List ℕ
literal_text lit = (if is_negated lit then codes "-" else []) ++ decimal (variable_of lit + 1)

-- literals with a space behind each, and the 0 that ends them
abbrev pub clause_text : List Lit → List ℕ
clause_text clause = flat_map (λ lit. literal_text lit ++ codes " ") clause ++ codes "0"

-- hints with a space behind each, and the 0 that ends them
abbrev pub hints_text : List ℕ → List ℕ
hints_text hints = flat_map (λ hint. decimal hint ++ codes " ") hints ++ codes "0"

-- the first line: how many variables and clauses there are
abbrev pub header_line : Cnf → List ℕ
header_line formula = codes "p cnf " ++ decimal formula.variables ++ codes " " ++ decimal (length formula.clauses) ++ codes "\n"

-- the line of a clause of the formula
abbrev pub clause_line : List Lit → List ℕ
clause_line clause = clause_text clause ++ codes "\n"

-- the line of a step
abbrev pub step_line : LogStep → List ℕ
step_line step = codes "l " ++ clause_text step.clause ++ codes " " ++ hints_text step.hints ++ codes "\n"

-- the first line, then a line for each clause, then a line for each step
abbrev pub proof_text : Cnf → List LogStep → List ℕ
proof_text formula log = header_line formula ++ flat_map clause_line formula.clauses ++ flat_map step_line log
