use Rattle.std.proofs.Common.{take}
use Rattle.lz_fold.specs.Folding.{IsNeeded, Went}
use Rattle.lz_fold.proofs.cone.keep.Given as goal

-- where the needed nodes so far went
abbrev pub invariant-loop-i : goal.invariant-loop-i
invariant-loop-i l = Went l.nodes.inputs (IsNeeded l.flags) (take l.i l.list) l.out l.places
