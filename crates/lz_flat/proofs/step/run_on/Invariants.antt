use Rattle.std.proofs.Common.{length, ◌-◌, slice_index}
use Rattle.lz_flat.proofs.StepLemmas.{LeftFrom}
use Rattle.lz_flat.proofs.step.run_on.Given as goal

abbrev pub invariant-loop-at : goal.invariant-loop-at
invariant-loop-at l = LeftFrom l.code (slice_index l.inputs) l.from l.initial.memory l.at l.used l.memory

abbrev pub decreases-loop-at : goal.decreases-loop-at
decreases-loop-at l = length l.code - l.at
