use Rattle.lz_bound.specs.BoundedTrees.{bounded_statement}
use Rattle.lz_bound.specs.Sizes.{statement_size}
use Rattle.lz_bound.proofs.SumLemmas.{IsSumSoFar}
use Rattle.lz_bound.proofs.measure.+statement_size.Given as goal

-- the nodes so far
abbrev pub invariant-parts_size-loop-part : goal.invariant-parts_size-loop-part
invariant-parts_size-loop-part l = IsSumSoFar (λ x. statement_size (bounded_statement x)) l.parts l.part-index l.sum
