use Rattle.lz_turns.specs.Stages.{locals_of}
use Rattle.lz_stations.specs.StationMoves.{filled_one}
use Rattle.lz_stations.proofs.StatementsLemmas.{value_so, value_none}
use Rattle.lz_stations.proofs.writes.fill_listed.Goals as goal

pub returns-then-element-values : goal.returns-then-element-values
returns-then-element-values c =
    value_so (λ o. filled_one c.args.object o c.args.element c.args.value (locals_of c.args.locals.now)) c.args.values.now c.args.element c.index-values-element.result _ c.if-element-values.true c.index-values-element.is
    c.in_ok-keep_converted.ensures

pub returns : goal.returns
returns c = value_none (λ o. filled_one c.args.object o c.args.element c.args.value (locals_of c.args.locals.now)) c.args.values.now c.args.element c.if-element-values.false
