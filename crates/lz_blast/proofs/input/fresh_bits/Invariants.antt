use Rattle.lz_blast.proofs.WordsMadeLemmas.{Freshens}
use Rattle.lz_blast.proofs.input.fresh_bits.Given as goal

abbrev pub invariant-loop-i : goal.invariant-loop-i
invariant-loop-i l = Freshens l.initial.builder l.builder l.bits l._i
