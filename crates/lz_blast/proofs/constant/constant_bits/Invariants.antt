use Rattle.lz_blast.proofs.WordsMadeLemmas.{Knows}
use Rattle.lz_blast.proofs.constant.constant_bits.Given as goal

abbrev pub invariant-loop-i : goal.invariant-loop-i
invariant-loop-i l = Knows l.builder l.fn.number l.bits l.rest l._i
