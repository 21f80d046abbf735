use Rattle.std.proofs.Common.{◌∙◌, arith, refl}
use Rattle.lz_arith.proofs.DifferencesLemmas.{copied_bits, as_long, minus_makes}
use Rattle.lz_arith.proofs.ShiftingLemmas.{bits_of}
use Rattle.lz_arith.proofs.add.minus_word.Goals as goal

pub subtract_words-requires : goal.subtract_words-requires
subtract_words-requires c =
    let zeros = copied_bits c.args.builder.now _ (c.items.ensures ∙ c.in_ok-zeros.ensures) c.falsity-off.ensures.lit in
    record {
      left = zeros.lits;
      right = as_long c.args.builder.now _ (record { length = refl; lits = c.requires.bits }) zeros.length;
      room = omega (arith, zeros.length, c.requires.room);
    }

pub returns-clause-bits : goal.returns-clause-bits
returns-clause-bits c =
    let zeros = copied_bits c.args.builder.now _ (c.items.ensures ∙ c.in_ok-zeros.ensures) c.falsity-off.ensures.lit in
    bits_of zeros.length refl c.in_ok-minus.ensures.bits

pub returns-clause-made : goal.returns-clause-made
returns-clause-made c = minus_makes _ _ _ c.falsity-off.ensures.says (c.items.ensures ∙ c.in_ok-zeros.ensures) c.in_ok-minus.ensures.made
