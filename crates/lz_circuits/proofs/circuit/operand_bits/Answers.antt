use Rattle.std.proofs.Common.{arith}
use Rattle.lz_circuits.proofs.OperandLemmas.{brings_none, brings_more}
use Rattle.lz_circuits.proofs.circuit.operand_bits.Goals as goal

pub loop-place-init : goal.loop-place-init
loop-place-init c = rw c.new-bits.ensures (brings_none _)

pub operand_bit-requires-clause-room : goal.operand_bit-requires-clause-room
operand_bit-requires-clause-room c = omega (arith, c.requires.room, c.loop-place.invariant.most, c.loop-place-test.true)

pub loop-place-preserved : goal.loop-place-preserved
loop-place-preserved c = rw c.in_ok-push.ensures.ok (brings_more _ c.loop-place.invariant c.in_ok-lit.ensures.lit c.in_ok-lit.ensures.more c.in_ok-lit.ensures.most)
