use Rattle.lz_arith.proofs.OperatorsLemmas.{not_makes}
use Rattle.lz_arith.proofs.operators.not_word.Goals as goal

pub returns-clause-made : goal.returns-clause-made
returns-clause-made c = not_makes _ _ _ c.requires.bits.length c.negated.ensures c.in_ok-test.ensures.made c.in_ok-result.ensures.made
