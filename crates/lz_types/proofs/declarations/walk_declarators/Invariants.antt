use Rattle.std.proofs.Common.{map}
use Rattle.lz_tree.specs.Trees.{init_declarator}
use Rattle.lz_types.proofs.StatementLemmas.{WalkedDeclarators, declarators_at}
use Rattle.lz_types.proofs.declarations.walk_declarators.Given as goal

abbrev pub invariant-loop-d : goal.invariant-loop-d
invariant-loop-d l =
    WalkedDeclarators l.file l.base l.initial.place l.place (map init_declarator l.declarators) (declarators_at l.declarators l.d-index) l.initial.faults.items l.faults.items
