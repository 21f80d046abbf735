-- Inner: what propagation answers.
use Rattle.lz_cnf.specs.Partial.{IsQuiet}
use Rattle.lz_prop.specs.Trail.{TrailState, IsFalseNamed, literals}
use Rattle.lz_prop.specs.declared.trail.Propagated.{Propagated}
use Rattle.lz_prop.specs.declared.trail.Propagated.TheVariants.{Quiet, Conflict}

-- no kept clause is unit or false, or the clause of this number is false
abbrev pub IsOutcome : TrailState → Propagated → Type 0
IsOutcome s Quiet = IsQuiet (literals s.set) s.clauses
IsOutcome s (Conflict clause) = IsFalseNamed s clause
