use Rattle.std.proofs.Common.{take}
use Rattle.lz_prop.specs.Scan.{IsLast}
use Rattle.lz_prop.proofs.scan.last_set.Given as goal

abbrev pub invariant-loop-other : goal.invariant-loop-other
invariant-loop-other l = IsLast l.levels l.clause (take l.other-index l.clause) l.lit l.last
