use Rattle.lz_expr.proofs.FrontsLemmas.{one}
use Rattle.lz_expr.proofs.parse.one_expression.Goals as goal

pub returns : goal.returns
returns c = one
