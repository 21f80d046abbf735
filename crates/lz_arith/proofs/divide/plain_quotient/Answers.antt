use Rattle.lz_arith.proofs.QuotientsLemmas.{plain_quotient_makes}
use Rattle.lz_arith.proofs.divide.plain_quotient.Goals as goal

pub returns-clause-made : goal.returns-clause-made
returns-clause-made c = plain_quotient_makes _ _ _ _ c.requires.left.length c.in_ok-quotient.ensures.made
