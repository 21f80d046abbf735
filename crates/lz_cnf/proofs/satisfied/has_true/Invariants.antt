use Rattle.lz_cnf.specs.Models.{IsTrueLit}
use Rattle.lz_base.proofs.ListLemmas.{NoneBefore}
use Rattle.lz_cnf.proofs.satisfied.has_true.Given as goal

abbrev pub invariant-loop-lit : goal.invariant-loop-lit
invariant-loop-lit l = NoneBefore (IsTrueLit l.values) l.clause l.lit-index
