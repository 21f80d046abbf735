use Rattle.lz_stations.proofs.StatementsLemmas.{value_in, value_out}
use Rattle.lz_stations.proofs.statements.value_move.Goals as goal

pub returns-then-element-values : goal.returns-then-element-values
returns-then-element-values c = value_in c.args.object c.args.values.now c.args.at c.args.element _ c.if-element-values.true c.filled_object.ensures

pub returns-else-element-values : goal.returns-else-element-values
returns-else-element-values c = value_out c.args.object c.args.values.now c.args.at c.args.element c.if-element-values.false
