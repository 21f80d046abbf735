use Rattle.lz_bound.specs.BoundedTrees.{bounded_routine, bounded_program}
use Rattle.lz_bound.specs.Sizes.{statement_size, program_size}
use Rattle.lz_bound.proofs.SumLemmas.{IsSumFrom}
use Rattle.lz_bound.proofs.measure.size.Given as goal

-- the nodes so far
abbrev pub invariant-loop-routine : goal.invariant-loop-routine
invariant-loop-routine l = IsSumFrom (λ x. statement_size (bounded_routine x).body) (program_size (bounded_program l.bounded)) l.routine-items l.routine-index l.sum
