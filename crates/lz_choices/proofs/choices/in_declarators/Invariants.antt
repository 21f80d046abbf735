use Rattle.lz_tree.specs.ScopedTrees.{scoped_declarator}
use Rattle.lz_choices.specs.Choices.{in_declarator}
use Rattle.lz_choices.proofs.ChoicesLemmas.{IsLeft}
use Rattle.lz_choices.proofs.choices.in_declarators.Given as goal

-- the declarators so far
abbrev pub invariant-loop-item : goal.invariant-loop-item
invariant-loop-item l = IsLeft (λ x. in_declarator (scoped_declarator x)) l.items l.item-index
