use Rattle.std.proofs.Common.{◌≡◌, ◌+◌, ◌*◌, ◌%◌, ◌^◌, ◌∙◌, sym, subst, refl, arith, length, List}
use Rattle.lz_cnf.specs.declared.clause.Lit.{Lit}
use Rattle.lz_gates.specs.Circuits.{Makes, value}
use Rattle.lz_arith.specs.Bits.{word, bit}
use Rattle.lz_arith.proofs.AddLemmas.{are_lits_more}
use Rattle.lz_arith.proofs.ShiftingLemmas.{moved_bits, bits_of}
use Rattle.lz_arith.proofs.ProductLemmas.{row_makes}
use Rattle.lz_arith.proofs.product.product_row.Goals as goal

pub mask_word-requires : goal.mask_word-requires
mask_word-requires c =
    let is = c.items.ensures ∙ c.in_ok-moved.ensures in
    let moved = moved_bits c.args.builder.now _ _ c.falsity-off.ensures.lit c.requires.left c.requires.place is in
    record {
      test = c.requires.digit;
      lits = moved.lits;
      room = omega (arith, moved.length, c.requires.room);
    }

pub add_words-requires : goal.add_words-requires
add_words-requires c =
    let is = c.items.ensures ∙ c.in_ok-moved.ensures in
    let moved = moved_bits c.args.builder.now _ _ c.falsity-off.ensures.lit c.requires.left c.requires.place is in
    let made = c.in_ok-masked.ensures.made in
    record {
      left = are_lits_more c.args.builder.now c.mask_word.new.builder _ made.extends.more c.requires.sum.lits;
      right = bits_of (moved.length ∙ sym c.requires.sum.length) c.items-2.ensures c.in_ok-masked.ensures.bits;
      carry = omega (arith, made.extends.more, c.falsity-off.ensures.lit);
      room = omega (arith, made.variables_most, moved.length, c.requires.sum.length, c.requires.room);
    }

pub returns-clause-made : goal.returns-clause-made
returns-clause-made c =
    let is = c.items.ensures ∙ c.in_ok-moved.ensures in
    let moved = moved_bits c.args.builder.now _ _ c.falsity-off.ensures.lit c.requires.left c.requires.place is in
    let add = subst (λ (xs : List Lit). Makes c.mask_word.new.builder c.add_words.new.builder (3 * length c.args.sum.now) (14 * length c.args.sum.now) (λ a. word a c.in_ok-added.added ≡ (word a c.args.sum.now + word a xs + bit (value a c.falsity-off.result)) % 2 ^ length c.args.sum.now)) c.items-2.ensures c.in_ok-added.ensures.made in
    row_makes _ _ _ _ _ _ c.falsity-off.ensures.says c.requires.place is moved.length c.requires.sum.length c.in_ok-masked.ensures.made add

pub returns-clause-bits : goal.returns-clause-bits
returns-clause-bits c = bits_of c.requires.sum.length refl c.in_ok-added.ensures.bits
