use Rattle.std.proofs.Common.{map}
use Rattle.lz_tree.specs.Trees.{external_declaration}
use Rattle.lz_resolve.proofs.FunctionsLemmas.{MadeFunctions, externals_from}
use Rattle.lz_resolve.proofs.functions.resolve_externals.Given as goal

abbrev pub invariant-loop-external : goal.invariant-loop-external
invariant-loop-external l =
    MadeFunctions l.file l.initial.place l.place (map external_declaration l.externals) (externals_from l.externals l.external-index) l.functions
