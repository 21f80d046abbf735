-- Inner: the formula of one variable that is to be true and to be false, and the log of the one step that refutes it.
use Rattle.std.specs.Prelude.{[], ◌∷◌}
use Rattle.lz_cnf.specs.declared.clause.Lit.{Lit}
use Rattle.lz_cnf.specs.declared.clause.Cnf.{Cnf}
use Rattle.lz_log.specs.declared.log.LogStep.{LogStep}

abbrev pub positive : Lit
positive = record { 0 = 0 }

abbrev pub negative : Lit
negative = record { 0 = 1 }

-- the clauses `1 0` and `-1 0`
abbrev pub both : Cnf
both = record { variables = 1; clauses = (positive ∷ []) ∷ (negative ∷ []) ∷ [] }

-- the step `l 0 1 2 0`
abbrev pub empty_step : LogStep
empty_step = record { clause = []; hints = 1 ∷ 2 ∷ [] }
