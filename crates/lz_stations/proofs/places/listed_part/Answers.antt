use Rattle.std.proofs.Common.{sym}
use Rattle.lz_stations.proofs.StatementsLemmas.{statement_in, statement_out}
use Rattle.lz_stations.proofs.places.listed_part.Goals as goal

pub returns-then-at-parts : goal.returns-then-at-parts
returns-then-at-parts c = sym (statement_in c.args.parts.now c.args.at _ c.if-at-parts.true c.index-parts-at.is)

pub returns-else-at-parts : goal.returns-else-at-parts
returns-else-at-parts c = sym (statement_out c.args.parts.now c.args.at c.if-at-parts.false)
