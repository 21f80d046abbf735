use Rattle.std.proofs.Common.{Bool, ◌&&◌}
use Rattle.lz_arith.proofs.OperatorsLemmas.{tests_make}
use Rattle.lz_arith.proofs.operators.both_word.Goals as goal

pub returns-clause-made : goal.returns-clause-made
returns-clause-made c =
    tests_make _ _ _ _ _ _ (λ (x y : Bool). x && y) c.requires.left.length c.requires.right.length
    c.in_ok-first.ensures.made c.in_ok-second.ensures.made c.in_ok-lit.ensures.made c.in_ok-bits.ensures.made
