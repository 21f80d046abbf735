use Rattle.std.proofs.Common.{sym, ◌∙◌}
use Rattle.lz_fold.proofs.RulesLemmas.{folds_right_unit}
use Rattle.lz_fold.proofs.rules.fold_binary.Goals as goal

pub returns-then-is_word : goal.returns-then-is_word
returns-then-is_word c = folds_right_unit c.args.op c.args.kind c.args.left c.args.right c.args.a c.args.b (λ x k. sym c.right_unit.ensures ∙ c.is_word.ensures c.if-is_word.true x k)
