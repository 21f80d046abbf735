use Rattle.std.proofs.Common.{take}
use Rattle.lz_ssa.specs.NodeValues.{AreNodesFrom}
use Rattle.lz_flat_tests.proofs.folding.are_formed.Given as goal

abbrev pub invariant-loop-i : goal.invariant-loop-i
invariant-loop-i l = AreNodesFrom 2 0 (take l.i l.row)
