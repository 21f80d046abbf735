use Rattle.std.proofs.Common.{◌∙◌}
use Rattle.lz_arith.proofs.OperatorsLemmas.{truth_makes, truth_bits}
use Rattle.lz_arith.proofs.operators.truth_word.Goals as goal

pub returns-clause-made : goal.returns-clause-made
returns-clause-made c = truth_makes _ 31 c.falsity-off.ensures.says (c.items.ensures ∙ c.in_ok-above.ensures) c.in_ok-bits.ensures

pub returns-clause-bits : goal.returns-clause-bits
returns-clause-bits c = truth_bits c.args.builder.now _ _ 31 _ _ c.requires.lit c.falsity-off.ensures.lit (c.items.ensures ∙ c.in_ok-above.ensures) c.in_ok-bits.ensures
