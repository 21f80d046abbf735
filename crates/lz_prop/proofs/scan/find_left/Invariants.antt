use Rattle.std.proofs.Common.{take}
use Rattle.std.specs.List.{All}
use Rattle.lz_prop.specs.Scan.{IsMarkedFalse}
use Rattle.lz_prop.proofs.scan.find_left.Given as goal

abbrev pub invariant-loop-lit : goal.invariant-loop-lit
invariant-loop-lit l = All (IsMarkedFalse l.truths) (take l.lit-index l.clause)
