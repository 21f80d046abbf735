use Rattle.std.proofs.Common.{◌*◌}
use Rattle.lz_arith.proofs.LoopsLemmas.{Grows, Masked}
use Rattle.lz_arith.proofs.choose.mask_word.Given as goal

abbrev pub invariant-loop-i : goal.invariant-loop-i
invariant-loop-i l = Grows l.initial.builder l.builder l.lits l.lits l.fn.test l.i l.bits l.i (3 * l.i) (Masked l.fn.test l.lits l.bits l.i)
