use Rattle.std.proofs.Common.{◌∙◌, sym, refl, arith}
use Rattle.lz_arith.proofs.ShiftingLemmas.{bits_of}
use Rattle.lz_arith.proofs.ShiftsLemmas.{down_bits, stage_down_makes}
use Rattle.lz_arith.proofs.shift.stage_down.Goals as goal

pub choose_words-requires : goal.choose_words-requires
choose_words-requires c =
    let moved = down_bits c.args.builder.now _ _ c.requires.fill c.requires.bits c.requires.within (c.items.ensures ∙ c.in_ok-moved.ensures) in
    record {
      test = c.requires.test;
      yes = moved.lits;
      no = record { length = sym moved.length; lits = c.requires.bits };
      room = omega (arith, moved.length, c.requires.room);
    }

pub returns-clause-made : goal.returns-clause-made
returns-clause-made c =
    let moved = down_bits c.args.builder.now _ _ c.requires.fill c.requires.bits c.requires.within (c.items.ensures ∙ c.in_ok-moved.ensures) in
    stage_down_makes _ _ _ _ c.requires.within (c.items.ensures ∙ c.in_ok-moved.ensures) moved.length c.in_ok-chosen.ensures.made

pub returns-clause-bits : goal.returns-clause-bits
returns-clause-bits c =
    let moved = down_bits c.args.builder.now _ _ c.requires.fill c.requires.bits c.requires.within (c.items.ensures ∙ c.in_ok-moved.ensures) in
    bits_of moved.length refl c.in_ok-chosen.ensures.bits
