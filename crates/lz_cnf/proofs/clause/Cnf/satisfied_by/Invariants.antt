use Rattle.std.specs.List.{Any}
use Rattle.lz_cnf.specs.Models.{IsTrueLit}
use Rattle.lz_cnf.specs.declared.clause.Lit.{Lit}
use Rattle.std.proofs.Common.{List}
use Rattle.lz_base.proofs.ListLemmas.{AllBefore}
use Rattle.lz_cnf.proofs.clause.Cnf.satisfied_by.Given as goal

abbrev pub invariant-loop-clause : goal.invariant-loop-clause
invariant-loop-clause l = AllBefore (λ (clause : List Lit). Any (IsTrueLit l.values) clause) l.clause-items l.clause-index
