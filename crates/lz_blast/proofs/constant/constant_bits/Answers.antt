use Rattle.std.proofs.Common.{arith, ℕ, ◌≡◌, subst}
use Rattle.lz_arith.specs.Bits.{AreBits}
use Rattle.lz_arith.specs.Sizes.{word_width}
use Rattle.lz_blast.proofs.WordsMadeLemmas.{knows_none, knows_more, knows_all}
use Rattle.lz_blast.proofs.constant.constant_bits.Goals as goal

pub loop-i-init : goal.loop-i-init
loop-i-init c = rw c.new-bits.ensures (knows_none _ _)

pub loop-i-preserved : goal.loop-i-preserved
loop-i-preserved c = rw c.in_ok-push.ensures.ok (knows_more _ c.loop-i.invariant c.known.ensures.lit c.known.ensures.says)

pub returns-clause-made : goal.returns-clause-made
returns-clause-made c = knows_all c.loop-i.invariant (omega arith) c.requires.small

pub returns-clause-bits : goal.returns-clause-bits
returns-clause-bits c = subst (λ (n : ℕ). AreBits c.args.builder.now n c.loop-i.bits) (let e : c.loop-i._i ≡ word_width = omega arith in e) c.loop-i.invariant.bits_in
