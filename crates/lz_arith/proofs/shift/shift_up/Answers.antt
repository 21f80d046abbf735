use Rattle.std.proofs.Common.{ℕ, ◌^◌, length, arith, refl}
use Rattle.lz_gates.specs.Circuits.{Assignment}
use Rattle.lz_arith.specs.Shifts.{moved_up}
use Rattle.lz_arith.proofs.ShiftingLemmas.{bits_of}
use Rattle.lz_arith.proofs.ShiftsLemmas.{shifts_none, shifts_turn, shifts_all, stage_room, stage_within, ups_move}
use Rattle.lz_arith.proofs.shift.shift_up.Goals as goal

pub loop-i-init : goal.loop-i-init
loop-i-init c = shifts_none (λ (a : Assignment). moved_up (2 ^ length c.args.bits.now)) (ups_move _) c.requires.bits c.requires.amount c.in_ok-moved.ensures

pub stage_up-requires : goal.stage_up-requires
stage_up-requires c =
    let held = bits_of refl c.items.ensures c.loop-i.invariant.moved_in in
    let fits = stage_within (length c.args.bits.now) (length c.args.amount.now) c.loop-i.i c.loop-i.by c.loop-i-test.true c.loop-i.invariant.by_is c.requires.within in
    record {
      test = c.loop-i.invariant.amount_in _ _ c.loop-i-test.true;
      bits = held.lits;
      within = omega (arith, fits.0, held.length);
      room = omega (arith, held.length, stage_room (length c.args.bits.now) (length c.args.amount.now) c.loop-i.i c.loop-i.builder.variables c.args.builder.now.variables c.loop-i-test.true c.loop-i.invariant.made.variables_most c.requires.room);
    }

pub loop-i-preserved : goal.loop-i-preserved
loop-i-preserved c =
    shifts_turn (λ (n : ℕ) (a : Assignment). moved_up (2 ^ n)) _ (ups_move _) c.loop-i.invariant c.loop-i-test.true c.items.ensures c.in_ok-next.ensures.bits c.in_ok-next.ensures.made

pub overflow_mul-by : goal.overflow_mul-by
overflow_mul-by c =
    let held = bits_of refl c.items.ensures c.loop-i.invariant.moved_in in
    let fits = stage_within (length c.args.bits.now) (length c.args.amount.now) c.loop-i.i c.loop-i.by c.loop-i-test.true c.loop-i.invariant.by_is c.requires.within in
    omega (arith, fits.1, held.length, c.items.type_inv)

pub returns-clause-made : goal.returns-clause-made
returns-clause-made c = shifts_all c.loop-i.invariant (omega arith)

pub returns-clause-bits : goal.returns-clause-bits
returns-clause-bits c = c.loop-i.invariant.moved_in
