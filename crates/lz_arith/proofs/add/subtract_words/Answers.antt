use Rattle.std.proofs.Common.{◌∙◌}
use Rattle.lz_arith.proofs.DifferencesLemmas.{negated_bits, subtract_makes}
use Rattle.lz_arith.proofs.add.subtract_words.Goals as goal

pub add_words-requires-clause-right : goal.add_words-requires-clause-right
add_words-requires-clause-right c = negated_bits c.args.builder.now (c.items.ensures ∙ c.in_ok-minus.ensures) c.requires.right

pub returns-clause-made : goal.returns-clause-made
returns-clause-made c = subtract_makes _ _ _ _ c.truth-on.ensures.says (c.items.ensures ∙ c.in_ok-minus.ensures) c.requires.right.length c.in_ok-bits.ensures.made
