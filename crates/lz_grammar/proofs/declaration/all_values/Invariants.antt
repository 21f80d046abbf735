use Rattle.std.proofs.Common.{◌≡◌, suc, map}
use Rattle.lz_tree.specs.Trees.{expression}
use Rattle.lz_expr.specs.Grammar.{expr}
use Rattle.lz_grammar.specs.Grammar.{values, all_values}
use Rattle.lz_grammar.proofs.ValuesLoopLemmas.{behind_values}
use Rattle.lz_grammar.proofs.declaration.all_values.Given as goal

abbrev pub invariant-values : goal.invariant-values
invariant-values l = all_values expr l.height l.fn.tokens ≡ behind_values (map expression l.values.items) (values expr l.height (suc l.turns) l.rest)

abbrev pub decreases-values : goal.decreases-values
decreases-values l = l.turns
