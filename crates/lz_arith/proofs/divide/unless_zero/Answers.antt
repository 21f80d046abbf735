use Rattle.lz_arith.proofs.QuotientsLemmas.{unless_zero_makes}
use Rattle.lz_arith.proofs.divide.unless_zero.Goals as goal

pub returns-clause-made : goal.returns-clause-made
returns-clause-made c = unless_zero_makes _ _ _ _ c.requires.divisor.length c.requires.bits.length c.in_ok-test.ensures.made c.in_ok-masked.ensures.made
