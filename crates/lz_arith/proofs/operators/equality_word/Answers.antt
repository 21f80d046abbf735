use Rattle.std.proofs.Common.{arith}
use Rattle.lz_gates.proofs.ExtendingLemmas.{makes_so}
use Rattle.lz_arith.proofs.OperatorsLemmas.{equal_of, truth_of}
use Rattle.lz_arith.proofs.operators.equality_word.Goals as goal

pub returns-clause-made : goal.returns-clause-made
returns-clause-made c =
    makes_so _ _ _ _ _ _ _ _
    (truth_of _ _ _ (equal_of _ c.args.turned _ c.turned_literal-own.ensures c.in_ok-lit.ensures.made) c.in_ok-bits.ensures.made)
    (omega (arith, c.requires.left.length)) (omega (arith, c.requires.left.length)) (λ a s p. p)
