use Rattle.lz_arith.proofs.DivideLemmas.{Divides}
use Rattle.lz_arith.proofs.divide.divide_words.Given as goal

abbrev pub invariant-loop-i : goal.invariant-loop-i
invariant-loop-i l = Divides l.initial.builder l.builder l.left l.divisor l.quotient l.rest l.i
