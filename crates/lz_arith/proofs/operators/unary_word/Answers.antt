use Rattle.lz_arith.proofs.OperatorsLemmas.{same_makes, inverted_makes}
use Rattle.lz_arith.proofs.DifferencesLemmas.{negated_bits}
use Rattle.lz_arith.proofs.operators.unary_word.Goals as goal

pub returns-in_ok-same-in-Plus-clause-made : goal.returns-in_ok-same-in-Plus-clause-made
returns-in_ok-same-in-Plus-clause-made c = rw c.in-Plus.is (same_makes c.in_ok-same-in-Plus.ensures)

pub returns-in_ok-turned-in-Invert-clause-made : goal.returns-in_ok-turned-in-Invert-clause-made
returns-in_ok-turned-in-Invert-clause-made c = rw c.in-Invert.is (inverted_makes _ c.requires.bits.length c.in_ok-turned-in-Invert.ensures)

pub returns-in_ok-turned-in-Invert-clause-bits : goal.returns-in_ok-turned-in-Invert-clause-bits
returns-in_ok-turned-in-Invert-clause-bits c = negated_bits c.args.builder.now c.in_ok-turned-in-Invert.ensures c.requires.bits
