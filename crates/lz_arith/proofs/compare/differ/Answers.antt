use Rattle.std.proofs.Common.{◌∙◌, ap, List, length, refl}
use Rattle.lz_cnf.specs.declared.clause.Lit.{Lit}
use Rattle.lz_arith.proofs.BitwiseLemmas.{differ_makes}
use Rattle.lz_arith.proofs.compare.differ.Goals as goal

pub returns-clause-made : goal.returns-clause-made
returns-clause-made c =
    differ_makes _ _ _ refl c.requires.right.length c.items.ensures (ap (λ (xs : List Lit). length xs) c.items.ensures ∙ c.in_ok-bits.ensures.bits.length) c.in_ok-bits.ensures.made c.in_ok-test.ensures.made
