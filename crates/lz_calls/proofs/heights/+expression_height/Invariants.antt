use Rattle.std.proofs.Common.{slice_index}
use Rattle.lz_tree.specs.ScopedTrees.{scoped_expression}
use Rattle.lz_calls.specs.Calls.{height_in}
use Rattle.lz_calls.specs.Heights.{counts_at}
use Rattle.lz_calls.proofs.TopsLemmas.{IsTopSoFar}
use Rattle.lz_calls.proofs.heights.+expression_height.Given as goal

-- the highest so far
abbrev pub invariant-expressions_height-loop-item : goal.invariant-expressions_height-loop-item
invariant-expressions_height-loop-item l =
    IsTopSoFar (λ x. height_in (counts_at l.levels.ranks.now l.levels.own (slice_index l.levels.heights.now)) (scoped_expression x)) l.items l.item-index l.top
