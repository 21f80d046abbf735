use Rattle.lz_arith.proofs.FreshLemmas.{Freshens}
use Rattle.lz_circuit_tests.proofs.words.fresh_word.Given as goal

abbrev pub invariant-loop-i : goal.invariant-loop-i
invariant-loop-i l = Freshens l.initial.builder l.builder l.bits l._i
