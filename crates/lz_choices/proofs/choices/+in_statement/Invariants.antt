use Rattle.lz_tree.specs.ScopedTrees.{scoped_statement}
use Rattle.lz_choices.specs.Choices.{in_statement}
use Rattle.lz_choices.proofs.ChoicesLemmas.{IsLeft}
use Rattle.lz_choices.proofs.choices.+in_statement.Given as goal

-- the statements so far
abbrev pub invariant-in_statements-loop-item : goal.invariant-in_statements-loop-item
invariant-in_statements-loop-item l = IsLeft (λ x. in_statement (scoped_statement x)) l.items l.item-index
