use Rattle.lz_turns.specs.Stages.{locals_of}
use Rattle.lz_stations.specs.StationMoves.{filled_by}
use Rattle.lz_stations.proofs.StatementsLemmas.{declarator_has, leaves_so, leaves_none}
use Rattle.lz_stations.proofs.writes.fill_element.Goals as goal

pub fill_object-requires : goal.fill_object-requires
fill_object-requires c = declarator_has c.args.declarators.now c.args.at c.index-declarators-at.result c.if-at-declarators.true c.index-declarators-at.is c.requires

pub returns-then-at-declarators : goal.returns-then-at-declarators
returns-then-at-declarators c =
    leaves_so (λ o. filled_by o c.args.element c.args.value (locals_of c.args.locals.now)) c.args.declarators.now c.args.at c.index-declarators-at.result _ c.if-at-declarators.true c.index-declarators-at.is c.in_ok-fill_object.ensures

pub returns : goal.returns
returns c = leaves_none (λ o. filled_by o c.args.element c.args.value (locals_of c.args.locals.now)) c.args.declarators.now c.args.at c.if-at-declarators.false
