use Rattle.std.proofs.Common.{◌≡◌}
use Rattle.lz_arith.specs.Bits.{copies}
use Rattle.lz_arith.proofs.lists.repeated.Given as goal

abbrev pub invariant-loop-i : goal.invariant-loop-i
invariant-loop-i l = l.bits ≡ copies l._i l.fn.lit
