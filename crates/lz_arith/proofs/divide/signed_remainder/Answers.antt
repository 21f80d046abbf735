use Rattle.std.proofs.Common.{◌∙◌, ap, List, length}
use Rattle.lz_cnf.specs.declared.clause.Lit.{Lit}
use Rattle.lz_arith.proofs.QuotientsLemmas.{signed_remainder_makes}
use Rattle.lz_arith.proofs.divide.signed_remainder.Goals as goal

pub returns-clause-made : goal.returns-clause-made
returns-clause-made c =
    let size_long = ap (λ (xs : List Lit). length xs) c.items.ensures ∙ c.in_ok-size.ensures.bits.length ∙ c.requires.left.length in
    signed_remainder_makes _ _ _ _ _ _ c.requires.left.length c.requires.divisor.length c.items.ensures c.items-2.ensures
    size_long c.items-3.ensures
    (ap (λ (xs : List Lit). length xs) c.items-3.ensures ∙ c.in_ok-rest.ensures.rest.length ∙ size_long)
    c.in_ok-size.ensures.made c.in_ok-by.ensures.made c.in_ok-rest.ensures.made c.in_ok-signed.ensures.made
