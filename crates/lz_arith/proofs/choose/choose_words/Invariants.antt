use Rattle.std.proofs.Common.{◌*◌}
use Rattle.lz_arith.proofs.LoopsLemmas.{Grows, Chosen}
use Rattle.lz_arith.proofs.choose.choose_words.Given as goal

abbrev pub invariant-loop-i : goal.invariant-loop-i
invariant-loop-i l = Grows l.initial.builder l.builder l.yes l.no l.fn.test l.i l.bits l.i (6 * l.i) (Chosen l.fn.test l.yes l.no l.bits l.i)
