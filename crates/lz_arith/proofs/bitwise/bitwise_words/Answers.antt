use Rattle.std.proofs.Common.{ℕ, length, ◌≡◌, arith, subst}
use Rattle.lz_arith.specs.Bits.{AreBits}
use Rattle.lz_arith.proofs.BitwiseLemmas.{bitwise_none, bitwise_more, bitwise_all}
use Rattle.lz_arith.proofs.bitwise.bitwise_words.Goals as goal

pub loop-i-init : goal.loop-i-init
loop-i-init c = rw c.new-bits.ensures (bitwise_none _ c.args.kind _ _ c.requires.left c.requires.right.lits)

pub bitwise_gate-requires : goal.bitwise_gate-requires
bitwise_gate-requires c = record {
  left = c.loop-i.invariant.lefts _ _ c.loop-i-test.true;
  right = c.loop-i.invariant.rights _ _ (omega (arith, c.requires.right.length, c.loop-i-test.true));
  room = omega (arith, c.loop-i.invariant.made.variables_most, c.loop-i-test.true, c.requires.room);
}

pub loop-i-preserved : goal.loop-i-preserved
loop-i-preserved c =
    rw c.in_ok-push.ensures.ok
    (bitwise_more _ _ _ c.loop-i.invariant c.loop-i-test.true (omega (arith, c.requires.right.length, c.loop-i-test.true)) c.in_ok-lit.ensures.lit c.in_ok-lit.ensures.made)

pub returns-clause-made : goal.returns-clause-made
returns-clause-made c = bitwise_all c.loop-i.invariant (omega arith) (omega (arith, c.requires.right.length, c.loop-i-test.false))

pub returns-clause-bits : goal.returns-clause-bits
returns-clause-bits c = subst (λ (n : ℕ). AreBits c.loop-i.builder n c.loop-i.bits) (let e : c.loop-i.i ≡ length c.args.left.now = omega arith in e) c.loop-i.invariant.bits_in
