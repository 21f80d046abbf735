use Rattle.lz_tree.specs.ScopedTrees.{scoped_expression}
use Rattle.lz_choices.specs.Choices.{in_expression}
use Rattle.lz_choices.proofs.ChoicesLemmas.{IsLeft}
use Rattle.lz_choices.proofs.choices.+in_expression.Given as goal

-- the expressions so far
abbrev pub invariant-in_expressions-loop-item : goal.invariant-in_expressions-loop-item
invariant-in_expressions-loop-item l = IsLeft (λ x. in_expression (scoped_expression x)) l.items l.item-index
