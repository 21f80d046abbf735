use Rattle.std.proofs.Common.{map}
use Rattle.lz_tree.specs.ScopedTrees.{scoped_definition}
use Rattle.lz_calls.proofs.HeightsLemmas.{AreKnown}
use Rattle.lz_calls.proofs.heights.heights.Given as goal

-- a height for each function, right for those so far
abbrev pub invariant-loop-function : goal.invariant-loop-function
invariant-loop-function l = AreKnown (map scoped_definition l.functions) l.ranks l.order l.function-index l.heights.items
