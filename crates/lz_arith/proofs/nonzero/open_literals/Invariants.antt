use Rattle.std.proofs.Common.{take}
use Rattle.lz_arith.specs.Open.{KeepsTest}
use Rattle.lz_arith.proofs.nonzero.open_literals.Given as goal

abbrev pub invariant-loop-i : goal.invariant-loop-i
invariant-loop-i l = KeepsTest l.fn.on l.fn.off (take l.i l.bits) l.kept
