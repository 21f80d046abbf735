use Rattle.lz_turns.specs.Stages.{locals_of}
use Rattle.lz_stations.specs.StationMoves.{initialized_by}
use Rattle.lz_stations.proofs.StatementsLemmas.{leaves_so, leaves_none}
use Rattle.lz_stations.proofs.writes.initialize_element.Goals as goal

pub returns-then-at-declarators : goal.returns-then-at-declarators
returns-then-at-declarators c =
    leaves_so (λ o. initialized_by o c.args.value (locals_of c.args.locals.now)) c.args.declarators.now c.args.at c.index-declarators-at.result _ c.if-at-declarators.true c.index-declarators-at.is c.in_ok-initialize_object.ensures

pub returns : goal.returns
returns c = leaves_none (λ o. initialized_by o c.args.value (locals_of c.args.locals.now)) c.args.declarators.now c.args.at c.if-at-declarators.false
