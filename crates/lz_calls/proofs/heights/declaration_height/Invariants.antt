use Rattle.std.proofs.Common.{slice_index, max}
use Rattle.lz_tree.specs.ScopedTrees.{scoped_declarator}
use Rattle.lz_calls.specs.Calls.{height_in_optional, height_in_initializer}
use Rattle.lz_calls.specs.Heights.{counts_at}
use Rattle.lz_calls.proofs.TopsLemmas.{IsTopSoFar}
use Rattle.lz_calls.proofs.heights.declaration_height.Given as goal

-- the highest so far
abbrev pub invariant-loop-item : goal.invariant-loop-item
invariant-loop-item l =
    IsTopSoFar (λ x. max (height_in_optional (counts_at l.levels.ranks.now l.levels.own (slice_index l.levels.heights.now)) (scoped_declarator x).length) (height_in_initializer (counts_at l.levels.ranks.now l.levels.own (slice_index l.levels.heights.now)) (scoped_declarator x).first)) l.items l.item-index l.top
