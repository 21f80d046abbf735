use Rattle.std.proofs.Common.{take}
use Rattle.lz_prop.specs.Scan.{AreOthersFalse}
use Rattle.lz_prop.proofs.scan.find_other.Given as goal

abbrev pub invariant-loop-other : goal.invariant-loop-other
invariant-loop-other l = AreOthersFalse l.truths (take l.other-index l.clause) l.lit
