use Rattle.lz_tree.specs.ScopedTrees.{scoped_statement}
use Rattle.lz_tree.specs.Calls.{statement_calls}
use Rattle.lz_calls.proofs.ListingLemmas.{IsSoFar}
use Rattle.lz_calls.proofs.listing.+list_statement.Given as goal

-- the calls so far
abbrev pub invariant-list_parts-loop-item : goal.invariant-list_parts-loop-item
invariant-list_parts-loop-item l = IsSoFar (λ x. statement_calls (scoped_statement x)) l.items l.initial.calls l.item-index l.calls
