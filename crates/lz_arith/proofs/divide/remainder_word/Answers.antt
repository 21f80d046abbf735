use Rattle.lz_arith.proofs.QuotientsLemmas.{masked_makes}
use Rattle.lz_arith.proofs.divide.remainder_word.Goals as goal

pub returns-clause-made : goal.returns-clause-made
returns-clause-made c = masked_makes _ _ _ c.items.ensures c.in_ok-bits.ensures.made c.in_ok-masked.ensures.made
