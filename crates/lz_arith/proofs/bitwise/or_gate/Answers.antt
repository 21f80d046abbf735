use Rattle.lz_arith.proofs.BitwiseLemmas.{or_makes}
use Rattle.lz_arith.proofs.bitwise.or_gate.Goals as goal

pub returns-clause-made : goal.returns-clause-made
returns-clause-made c = or_makes _ _ _ c.negated.ensures c.negated-2.ensures c.negated-3.ensures c.in_ok-neither.ensures.made
