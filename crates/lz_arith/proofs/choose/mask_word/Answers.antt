use Rattle.std.proofs.Common.{ℕ, length, ◌≡◌, arith, subst}
use Rattle.lz_arith.specs.Bits.{AreBits}
use Rattle.lz_arith.proofs.LoopsLemmas.{masks_none, masks_more, masks_all}
use Rattle.lz_arith.proofs.choose.mask_word.Goals as goal

pub loop-i-init : goal.loop-i-init
loop-i-init c = rw c.new-bits.ensures (masks_none c.requires.lits c.requires.test)

pub and_gate-requires : goal.and_gate-requires
and_gate-requires c = record {
  left = c.loop-i.invariant.test_in;
  right = c.loop-i.invariant.lefts _ _ c.loop-i-test.true;
  room = omega (arith, c.loop-i.invariant.made.variables_most, c.loop-i-test.true, c.requires.room);
}

pub loop-i-preserved : goal.loop-i-preserved
loop-i-preserved c =
    rw c.in_ok-push.ensures.ok
    (masks_more _ _ c.loop-i.invariant c.loop-i-test.true c.in_ok-lit.ensures.lit c.in_ok-lit.ensures.made)

pub returns-clause-made : goal.returns-clause-made
returns-clause-made c = masks_all c.loop-i.invariant (omega arith)

pub returns-clause-bits : goal.returns-clause-bits
returns-clause-bits c = subst (λ (n : ℕ). AreBits c.loop-i.builder n c.loop-i.bits) (let e : c.loop-i.i ≡ length c.args.lits.now = omega arith in e) c.loop-i.invariant.bits_in
