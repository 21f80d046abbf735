use Rattle.std.specs.Prelude.{◌≢◌, List, []}
use Rattle.lz_cnf.specs.declared.clause.Lit.{Lit}
use Rattle.lz_base.proofs.ListLemmas.{AllBefore}
use Rattle.lz_cnf.proofs.clause.Cnf.has_no_empty_clause.Given as goal

abbrev pub invariant-loop-clause : goal.invariant-loop-clause
invariant-loop-clause l = AllBefore (λ (clause : List Lit). clause ≢ []) l.clause-items l.clause-index
