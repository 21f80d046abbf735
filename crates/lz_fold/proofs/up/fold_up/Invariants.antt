use Rattle.std.proofs.Common.{take}
use Rattle.lz_fold.specs.Folding.{AnyNode, Went}
use Rattle.lz_fold.proofs.up.fold_up.Given as goal

-- where the nodes so far went
abbrev pub invariant-loop-i : goal.invariant-loop-i
invariant-loop-i l = Went l.nodes.inputs AnyNode (take l.i l.list) l.out l.places
