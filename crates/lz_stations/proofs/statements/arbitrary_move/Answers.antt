use Rattle.lz_stations.specs.StationMoves.{arbitrary_move}
use Rattle.lz_stations.proofs.StatementsLemmas.{declarator_so, declarator_none}
use Rattle.lz_stations.proofs.statements.arbitrary_move.Goals as goal

pub returns-then-at-declarators : goal.returns-then-at-declarators
returns-then-at-declarators c = declarator_so (λ o. arbitrary_move o c.args.at c.args.element) c.args.declarators.now c.args.at c.index-declarators-at.result _ c.if-at-declarators.true c.index-declarators-at.is c.filled_object.ensures

pub returns-else-at-declarators : goal.returns-else-at-declarators
returns-else-at-declarators c = declarator_none (λ o. arbitrary_move o c.args.at c.args.element) c.args.declarators.now c.args.at c.if-at-declarators.false
