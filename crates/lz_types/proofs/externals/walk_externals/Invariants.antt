use Rattle.std.proofs.Common.{map}
use Rattle.lz_tree.specs.Trees.{external_declaration}
use Rattle.lz_types.proofs.ExternalLemmas.{WalkedExternals, externals_at}
use Rattle.lz_types.proofs.externals.walk_externals.Given as goal

abbrev pub invariant-loop-e : goal.invariant-loop-e
invariant-loop-e l =
    WalkedExternals l.file l.initial.place l.place (map external_declaration l.externals) (externals_at l.externals l.e-index) l.initial.faults.items l.faults.items
