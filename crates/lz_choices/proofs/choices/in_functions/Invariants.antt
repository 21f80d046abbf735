use Rattle.lz_tree.specs.ScopedTrees.{scoped_definition}
use Rattle.lz_choices.specs.Choices.{in_statement}
use Rattle.lz_choices.proofs.ChoicesLemmas.{IsLeft}
use Rattle.lz_choices.proofs.choices.in_functions.Given as goal

-- the bodies so far
abbrev pub invariant-loop-item : goal.invariant-loop-item
invariant-loop-item l = IsLeft (λ x. in_statement (scoped_definition x).body) l.items l.item-index
