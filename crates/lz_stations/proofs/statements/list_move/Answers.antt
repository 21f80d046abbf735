use Rattle.lz_stations.proofs.StatementsLemmas.{list_in, list_out}
use Rattle.lz_stations.proofs.statements.list_move.Goals as goal

pub returns-then-at-parts : goal.returns-then-at-parts
returns-then-at-parts c = list_in c.args.parts.now c.args.at c.if-at-parts.true

pub returns-else-at-parts : goal.returns-else-at-parts
returns-else-at-parts c = list_out c.args.parts.now c.args.at c.if-at-parts.false
