use Rattle.lz_tree.specs.ScopedTrees.{scoped_expression}
use Rattle.lz_tree.specs.Calls.{expression_calls}
use Rattle.lz_calls.proofs.ListingLemmas.{IsSoFar}
use Rattle.lz_calls.proofs.listing.+list_expression.Given as goal

-- the calls so far
abbrev pub invariant-list_expressions-loop-item : goal.invariant-list_expressions-loop-item
invariant-list_expressions-loop-item l = IsSoFar (λ x. expression_calls (scoped_expression x)) l.items l.initial.calls l.item-index l.calls
