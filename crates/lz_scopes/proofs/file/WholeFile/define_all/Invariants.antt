use Rattle.std.proofs.Common.{◌≡◌, map}
use Rattle.lz_tree.specs.Trees.{external_declaration}
use Rattle.lz_scopes.specs.Scopes.{signatures}
use Rattle.lz_scopes.proofs.WholeLemmas.{with_functions, left_at_file}
use Rattle.lz_scopes.proofs.file.WholeFile.define_all.Given as goal

-- what was added so far and what is left are all
abbrev pub invariant-loop-e : goal.invariant-loop-e
invariant-loop-e l =
    with_functions l.initial.self (signatures (map external_declaration l.externals)) ≡ with_functions l.self (left_at_file l.externals l.e-index)
