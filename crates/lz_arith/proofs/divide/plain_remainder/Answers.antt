use Rattle.lz_arith.proofs.QuotientsLemmas.{plain_remainder_makes}
use Rattle.lz_arith.proofs.divide.plain_remainder.Goals as goal

pub returns-clause-made : goal.returns-clause-made
returns-clause-made c = plain_remainder_makes _ _ _ _ c.requires.left.length c.in_ok-rest.ensures.made
