use Rattle.lz_arith.proofs.BitwiseLemmas.{Combines}
use Rattle.lz_arith.proofs.bitwise.bitwise_words.Given as goal

abbrev pub invariant-loop-i : goal.invariant-loop-i
invariant-loop-i l = Combines l.initial.builder l.builder l.fn.kind l.left l.right l.bits l.i
