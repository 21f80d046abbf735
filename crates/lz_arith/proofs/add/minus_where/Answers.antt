use Rattle.std.proofs.Common.{◌∙◌, arith, ap, List, length}
use Rattle.lz_cnf.specs.declared.clause.Lit.{Lit}
use Rattle.lz_gates.proofs.ExtendingLemmas.{makes_so}
use Rattle.lz_arith.proofs.DifferencesLemmas.{where_makes}
use Rattle.lz_arith.proofs.add.minus_where.Goals as goal

pub returns-clause-made : goal.returns-clause-made
returns-clause-made c =
    makes_so _ _ _ _ _ _ _ _
    (where_makes _ _ _ _ c.in_ok-minus.ensures.made c.items.ensures (ap (λ (xs : List Lit). length xs) c.items.ensures ∙ c.in_ok-minus.ensures.bits.length) c.in_ok-chosen.ensures.made)
    (omega arith) (omega arith) (λ a s p. p)
