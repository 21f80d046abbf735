use Rattle.std.proofs.Common.{slice_index}
use Rattle.lz_ssa.proofs.EvaluateLemmas.{EvaluatesFrom}
use Rattle.lz_ssa.proofs.evaluate.eval.Given as goal

abbrev pub invariant-loop-i : goal.invariant-loop-i
invariant-loop-i l = EvaluatesFrom (slice_index l.inputs) l.list l.i l.values
