use Rattle.lz_arith.proofs.OperatorsLemmas.{sum_makes}
use Rattle.lz_arith.proofs.operators.sum_word.Goals as goal

pub returns-clause-made : goal.returns-clause-made
returns-clause-made c = sum_makes _ _ _ _ c.falsity-off.ensures.says c.requires.left.length c.in_ok-sum.ensures.made
