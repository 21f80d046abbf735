use Rattle.std.proofs.Common.{◌∙◌, arith, ap, List, length}
use Rattle.lz_cnf.specs.declared.clause.Lit.{Lit}
use Rattle.lz_arith.proofs.SignsLemmas.{signed_less_makes, length-top_flipped}
use Rattle.lz_arith.proofs.compare.signed_less.Goals as goal

pub returns-clause-made : goal.returns-clause-made
returns-clause-made c =
    signed_less_makes _ _ _ c.requires.left.length c.requires.right.length (c.items.ensures ∙ c.in_ok-low.ensures) (c.items-2.ensures ∙ c.in_ok-high.ensures) (ap (λ (xs : List Lit). length xs) (c.items.ensures ∙ c.in_ok-low.ensures) ∙ length-top_flipped c.args.left.now (omega (arith, c.requires.left.length)) ∙ c.requires.left.length) c.in_ok-less.ensures.made
