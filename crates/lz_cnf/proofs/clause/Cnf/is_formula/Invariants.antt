use Rattle.std.specs.Prelude.{◌<◌, List}
use Rattle.std.specs.List.{All}
use Rattle.lz_cnf.specs.declared.clause.Lit.{Lit}
use Rattle.lz_cnf.specs.Models.{variable_of}
use Rattle.lz_base.proofs.ListLemmas.{AllBefore}
use Rattle.lz_cnf.proofs.clause.Cnf.is_formula.Given as goal

abbrev pub invariant-loop-clause : goal.invariant-loop-clause
invariant-loop-clause l = AllBefore (λ (clause : List Lit). All (λ lit. variable_of lit < l.self.variables) clause) l.clause-items l.clause-index
