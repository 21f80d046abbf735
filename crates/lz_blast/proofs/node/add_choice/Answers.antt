use Rattle.std.proofs.Common.{refl}
use Rattle.lz_arith.proofs.ShiftingLemmas.{bits_of}
use Rattle.lz_blast.proofs.NodeLemmas.{adds_choice, held_long}
use Rattle.lz_blast.proofs.node.add_choice.Goals as goal

pub returns : goal.returns
returns c =
    let tested_long = held_long c.args.builder.now c.requires.words c.items-lists.ensures c.requires.test c.index-lists-test.is in
    let first_long = held_long c.args.builder.now c.requires.words c.items-lists.ensures c.requires.yes c.index-lists-yes.is in
    record {
      adds = adds_choice _ c.items-lists.ensures c.requires.test c.requires.yes c.requires.no c.index-lists-test.is c.index-lists-yes.is c.index-lists-no.is
          tested_long first_long c.in_ok-push.ensures.ok (bits_of first_long refl c.in_ok-bits.ensures.bits) c.in_ok-chosen.ensures.made c.in_ok-bits.ensures.made;
    }
