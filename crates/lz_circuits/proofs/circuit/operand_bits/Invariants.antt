use Rattle.lz_circuits.proofs.OperandLemmas.{Brings}
use Rattle.lz_circuits.proofs.circuit.operand_bits.Given as goal

abbrev pub invariant-loop-place : goal.invariant-loop-place
invariant-loop-place l = Brings l.initial.builder l.builder l.bits l.place
