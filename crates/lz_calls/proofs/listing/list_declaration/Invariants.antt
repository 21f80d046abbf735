use Rattle.std.proofs.Common.{◌++◌}
use Rattle.lz_tree.specs.ScopedTrees.{scoped_declarator}
use Rattle.lz_tree.specs.Calls.{optional_calls, initializer_calls}
use Rattle.lz_calls.proofs.ListingLemmas.{IsSoFar}
use Rattle.lz_calls.proofs.listing.list_declaration.Given as goal

-- the calls so far
abbrev pub invariant-loop-item : goal.invariant-loop-item
invariant-loop-item l =
    IsSoFar (λ x. optional_calls (scoped_declarator x).length ++ initializer_calls (scoped_declarator x).first) l.items l.initial.calls l.item-index l.calls
