use Rattle.std.proofs.Common.{List, take}
use Rattle.lz_cnf.specs.declared.clause.Lit.{Lit}
use Rattle.lz_log.specs.Marks.{Mark, Stands}
use Rattle.lz_log.proofs.marks.Marks.standing.Given as goal

abbrev pub invariant-loop-lit : goal.invariant-loop-lit
invariant-loop-lit l = (false_ : List Lit) → Mark l.self false_ → Stands false_ (take l.lit-index l.clause) l.standing
