use Rattle.lz_arith.proofs.AddLemmas.{sum_modulo}
use Rattle.lz_arith.proofs.add.add_words.Goals as goal

pub returns-clause-made : goal.returns-clause-made
returns-clause-made c = sum_modulo _ _ _ _ c.in_ok-bits.ensures.made c.in_ok-bits.ensures.bits
