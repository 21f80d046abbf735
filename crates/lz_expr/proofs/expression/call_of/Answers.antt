use Rattle.lz_tree.proofs.TreesLemmas.{expression-call}
use Rattle.lz_expr.proofs.expression.call_of.Goals as goal

pub returns : goal.returns
returns c = expression-call c.args.line c.args.name c.args.args
