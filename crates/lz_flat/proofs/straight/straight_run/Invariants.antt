use Rattle.std.proofs.Common.{slice_index}
use Rattle.lz_flat.proofs.StraightRunLemmas.{RunsFrom}
use Rattle.lz_flat.proofs.straight.straight_run.Given as goal

abbrev pub invariant-loop-i : goal.invariant-loop-i
invariant-loop-i l = RunsFrom l.straight.list l.straight.first (slice_index l.inputs) l.i l.memory
