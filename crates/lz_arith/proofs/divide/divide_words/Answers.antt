use Rattle.std.proofs.Common.{sym, refl, arith, length}
use Rattle.lz_arith.proofs.ShiftingLemmas.{length-copies, copies_in, bits_of}
use Rattle.lz_arith.proofs.DivideLemmas.{divides_none, divides_turn, divides_all, digits_room}
use Rattle.lz_arith.proofs.divide.divide_words.Goals as goal

pub loop-i-init : goal.loop-i-init
loop-i-init c =
    rw c.new-quotient.ensures
    (divides_none c.args.builder.now _ c.requires.left c.requires.divisor
    (bits_of refl c.in_ok-rest.ensures (record { length = length-copies (length c.args.left.now) c.falsity-off.result; lits = copies_in c.args.builder.now (length c.args.left.now) c.falsity-off.result c.falsity-off.ensures.lit }))
    c.in_ok-rest.ensures c.falsity-off.ensures.says)

pub divide_step-requires : goal.divide_step-requires
divide_step-requires c =
    let rest = bits_of refl c.items.ensures c.loop-i.invariant.rest_in in
    record {
      rest = rest.lits;
      divisor = bits_of (sym rest.length) refl c.loop-i.invariant.divisor_in;
      digit = c.loop-i.invariant.lefts _ _ (omega (arith, c.loop-i-test.true));
      room =
          let room = digits_room (length c.args.left.now) c.loop-i.i c.loop-i.builder.variables c.args.builder.now.variables c.loop-i-test.true c.loop-i.invariant.made.variables_most c.requires.room in
          omega (arith, rest.length, room);
    }

pub loop-i-preserved : goal.loop-i-preserved
loop-i-preserved c =
    divides_turn _ c.loop-i.invariant c.loop-i-test.true refl c.items.ensures c.items-in-loop-i.ensures
    c.in_ok-fits.ensures.fits c.in_ok-fits.ensures.bits c.in_ok-more.ensures c.in_ok-fits.ensures.made

pub returns-clause-made : goal.returns-clause-made
returns-clause-made c = divides_all c.loop-i.invariant (omega arith)
