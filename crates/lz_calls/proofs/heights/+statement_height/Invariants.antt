use Rattle.std.proofs.Common.{slice_index}
use Rattle.lz_tree.specs.ScopedTrees.{scoped_statement}
use Rattle.lz_calls.specs.Calls.{height_of}
use Rattle.lz_calls.specs.Heights.{counts_at}
use Rattle.lz_calls.proofs.TopsLemmas.{IsTopSoFar}
use Rattle.lz_calls.proofs.heights.+statement_height.Given as goal

-- the highest so far
abbrev pub invariant-parts_height-loop-item : goal.invariant-parts_height-loop-item
invariant-parts_height-loop-item l =
    IsTopSoFar (λ x. height_of (counts_at l.levels.ranks.now l.levels.own (slice_index l.levels.heights.now)) (scoped_statement x)) l.items l.item-index l.top
