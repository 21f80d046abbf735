use Rattle.std.proofs.Common.{◌≡◌, take}
use Rattle.lz_arith.specs.Bits.{negations}
use Rattle.lz_arith.proofs.lists.inverted.Given as goal

abbrev pub invariant-loop-i : goal.invariant-loop-i
invariant-loop-i l = l.result ≡ negations (take l.i l.bits)
