use Rattle.std.proofs.Common.{sym, ◌∙◌}
use Rattle.lz_fold.proofs.RulesLemmas.{folds_keeps_equals}
use Rattle.lz_fold.proofs.rules.fold_equals.Goals as goal

pub returns-then-keeps_equals : goal.returns-then-keeps_equals
returns-then-keeps_equals c = folds_keeps_equals c.args.op c.args.kind c.args.left c.args.right c.requires (sym c.keeps_equals.ensures ∙ c.if-keeps_equals.true)
