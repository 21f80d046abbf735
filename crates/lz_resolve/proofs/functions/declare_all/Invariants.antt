use Rattle.std.proofs.Common.{◌≡◌, map}
use Rattle.lz_tree.specs.Trees.{init_declarator}
use Rattle.lz_scopes.specs.Scopes.{with_declarators}
use Rattle.lz_resolve.proofs.DeclarationsLemmas.{left_from}
use Rattle.lz_resolve.proofs.functions.declare_all.Given as goal

abbrev pub invariant-loop-d : goal.invariant-loop-d
invariant-loop-d l =
    with_declarators l.initial.place l.base (map init_declarator l.declarators) ≡ with_declarators l.place l.base (left_from l.declarators l.d-index)
