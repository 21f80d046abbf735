use Rattle.std.proofs.Common.{[], ◌∷◌}
use Rattle.lz_tree.specs.ScopedTrees.{scoped_definition}
use Rattle.lz_tree.specs.Calls.{statement_calls}
use Rattle.lz_calls.proofs.ListingLemmas.{IsSoFar}
use Rattle.lz_calls.proofs.listing.graph.Given as goal

-- the rows so far
abbrev pub invariant-loop-function : goal.invariant-loop-function
invariant-loop-function l = IsSoFar (λ x. statement_calls (scoped_definition x).body ∷ []) l.functions [] l.function-index l.graph.items
