use Rattle.std.proofs.Common.{◌≡◌, subst, List, IfOk}
use Rattle.lz_cnf.specs.declared.clause.Lit.{Lit}
use Rattle.lz_arith.proofs.OperatorsLemmas.{settled_makes}
use Rattle.lz_arith.proofs.operators.convert_bits.Goals as goal

pub returns-clause-made : goal.returns-clause-made
returns-clause-made c =
    rw c.settled.ensures.same
    (settled_makes _ _ _ _ c.settled.ensures.ok (subst (λ (xs : List Lit). IfOk c.copied-outcome.result (λ r. r ≡ xs)) c.items.ensures c.copied-outcome.ensures))
