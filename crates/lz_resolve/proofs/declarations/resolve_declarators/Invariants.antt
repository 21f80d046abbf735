use Rattle.std.proofs.Common.{map}
use Rattle.lz_tree.specs.Trees.{init_declarator}
use Rattle.lz_resolve.proofs.DeclarationsLemmas.{MadeDeclarators, left_from}
use Rattle.lz_resolve.proofs.declarations.resolve_declarators.Given as goal

abbrev pub invariant-loop-d : goal.invariant-loop-d
invariant-loop-d l =
    MadeDeclarators l.file l.base l.initial.place l.place (map init_declarator l.declarators) (left_from l.declarators l.d-index) l.all
