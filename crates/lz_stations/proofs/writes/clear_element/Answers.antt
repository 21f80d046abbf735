use Rattle.lz_turns.specs.Stages.{locals_of}
use Rattle.lz_stations.specs.StationMoves.{cleared_by}
use Rattle.lz_stations.proofs.StatementsLemmas.{declarator_has, leaves_so, leaves_none}
use Rattle.lz_stations.proofs.writes.clear_element.Goals as goal

pub clear_object-requires : goal.clear_object-requires
clear_object-requires c = declarator_has c.args.declarators.now c.args.at c.index-declarators-at.result c.if-at-declarators.true c.index-declarators-at.is c.requires

pub returns-then-at-declarators : goal.returns-then-at-declarators
returns-then-at-declarators c =
    leaves_so (λ o. cleared_by o c.args.element (locals_of c.args.locals.now)) c.args.declarators.now c.args.at c.index-declarators-at.result _ c.if-at-declarators.true c.index-declarators-at.is c.in_ok-clear_object.ensures

pub returns : goal.returns
returns c = leaves_none (λ o. cleared_by o c.args.element (locals_of c.args.locals.now)) c.args.declarators.now c.args.at c.if-at-declarators.false
