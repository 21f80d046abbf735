use Rattle.std.proofs.Common.{◌<◌, sym, ap, ◌∙◌, arith}
use Rattle.std.proofs.lemmas.Result.{IfOk-weaker}
use Rattle.lz_tree.specs.ScopedTrees.{scoped_statement}
use Rattle.lz_stations.specs.Stations as at
use Rattle.lz_stations.specs.StationMoves.{part_at}
use Rattle.lz_stations.specs.StationsHeld.{flow_of, station_of, station_move_of}
use Rattle.lz_stations.specs.StatementSizes.{statement_size}
use Rattle.lz_stations.specs.WalksHeld.{footing_of, stepped_of}
use Rattle.lz_stations.proofs.PlacesLemmas.{declares_numbers, part_inner}
use Rattle.lz_stations.proofs.WalkLemmas.{part_missing, part_there, part_entered, value_comes, part_leads, part_stays, station_comes, behind_again, behind_stopped, step_on, step_reaches, step_value, step_part, on_down, value_down, part_down, again_down, steps_first, steps_next, steps_come}
use Rattle.lz_stations.proofs.walking.+walk.Goals as goal

pub enter_part-returns : goal.enter_part-returns
enter_part-returns t c = part_entered c.args.bound (scoped_statement c.args.s.now) (station_of c.args.station) _ c.in_ok-part.ensures c.in_ok-stepped.ensures

pub go_on-loop-next-init : goal.go_on-loop-next-init
go_on-loop-next-init t c = steps_first c.args.bound (scoped_statement c.args.s.now) (station_of c.args.station) c.args.value (flow_of c.args.flow) _

pub go_on-loop-next-smaller : goal.go_on-loop-next-smaller
go_on-loop-next-smaller t c =
    again_down c.args.bound (scoped_statement c.args.s.now) (station_of c.loop-next.now) (station_of c.in-Again.next) c.in-Again.given (flow_of c.in-Again.way) _ (ap (λ x. stepped_of x (footing_of c.step.new.footing)) c.in-Again.is) c.in_ok-next.ensures.down

pub go_on-loop-next-preserved : goal.go_on-loop-next-preserved
go_on-loop-next-preserved t c =
    steps_next c.args.bound (scoped_statement c.args.s.now) (station_of c.args.station) (station_of c.loop-next.now) (station_of c.in-Again.next) c.args.value c.loop-next.held c.in-Again.given
    (flow_of c.args.flow) (flow_of c.loop-next.led) (flow_of c.in-Again.way) _ _ _ _ c.loop-next.invariant c.in_ok-next.ensures.same (ap (λ x. stepped_of x (footing_of c.step.new.footing)) c.in-Again.is)

pub go_on-returns-in-Stopped : goal.go_on-returns-in-Stopped
go_on-returns-in-Stopped t c =
    steps_come c.args.bound (scoped_statement c.args.s.now) (station_of c.args.station) (station_of c.loop-next.now) c.args.value c.loop-next.held (flow_of c.args.flow) (flow_of c.loop-next.led)
    c.loop-next.invariant c.in_ok-next.ensures.same (ap (λ x. stepped_of x (footing_of c.step.new.footing)) c.in-Stopped.is)

pub part-returns-in-None : goal.part-returns-in-None
part-returns-in-None t c = part_missing c.args.bound (part_at (scoped_statement c.args.s.now) (station_of c.args.station)) _ c.args.given _ c.in-None.ensures

pub step-station_writes-requires : goal.step-station_writes-requires
step-station_writes-requires t c = declares_numbers (scoped_statement c.args.s.now) c.requires

pub step-returns-in_ok-stepped-in-EntersValue-clause-same : goal.step-returns-in_ok-stepped-in-EntersValue-clause-same
step-returns-in_ok-stepped-in-EntersValue-clause-same t c =
    step_value c.args.bound (scoped_statement c.args.s.now) (station_of c.args.station) (station_of c.in-EntersValue.next) c.args.value (flow_of c.args.flow)
    (sym (ap station_move_of c.in-EntersValue.is) ∙ c.station_move.ensures) c.in_ok-station_writes.ensures c.in_ok-stepped-in-EntersValue.ensures

pub step-returns-in_ok-stepped-in-EntersValue-clause-down : goal.step-returns-in_ok-stepped-in-EntersValue-clause-down
step-returns-in_ok-stepped-in-EntersValue-clause-down t c =
    value_down c.args.bound (scoped_statement c.args.s.now) (station_of c.args.station) (station_of c.in-EntersValue.next) c.args.value (flow_of c.args.flow)
    (sym (ap station_move_of c.in-EntersValue.is) ∙ c.station_move.ensures) c.in_ok-stepped-in-EntersValue.ensures

pub step-returns-in_ok-stepped-in-EntersPart-clause-same : goal.step-returns-in_ok-stepped-in-EntersPart-clause-same
step-returns-in_ok-stepped-in-EntersPart-clause-same t c =
    step_part c.args.bound (scoped_statement c.args.s.now) (station_of c.args.station) (station_of c.in-EntersPart.next) c.args.value (flow_of c.args.flow)
    (sym (ap station_move_of c.in-EntersPart.is) ∙ c.station_move.ensures) c.in_ok-station_writes.ensures c.in_ok-stepped-in-EntersPart.ensures

pub step-returns-in_ok-stepped-in-EntersPart-clause-down : goal.step-returns-in_ok-stepped-in-EntersPart-clause-down
step-returns-in_ok-stepped-in-EntersPart-clause-down t c =
    part_down c.args.bound (scoped_statement c.args.s.now) (station_of c.args.station) (station_of c.in-EntersPart.next) c.args.value (flow_of c.args.flow)
    (sym (ap station_move_of c.in-EntersPart.is) ∙ c.station_move.ensures) c.in_ok-stepped-in-EntersPart.ensures

pub step-returns-in-MovesOn-clause-same : goal.step-returns-in-MovesOn-clause-same
step-returns-in-MovesOn-clause-same t c =
    step_on c.args.bound (scoped_statement c.args.s.now) (station_of c.args.station) (station_of c.in-MovesOn.next) c.args.value (flow_of c.args.flow) _ _ (sym (ap station_move_of c.in-MovesOn.is) ∙ c.station_move.ensures)
    c.in_ok-station_writes.ensures

pub step-returns-in-MovesOn-clause-down : goal.step-returns-in-MovesOn-clause-down
step-returns-in-MovesOn-clause-down t c =
    on_down c.args.bound (scoped_statement c.args.s.now) (station_of c.args.station) (station_of c.in-MovesOn.next) c.args.value (flow_of c.args.flow) (sym (ap station_move_of c.in-MovesOn.is) ∙ c.station_move.ensures)

pub step-returns-in-Leads-clause-same : goal.step-returns-in-Leads-clause-same
step-returns-in-Leads-clause-same t c =
    step_reaches c.args.bound (scoped_statement c.args.s.now) (station_of c.args.station) c.args.value (flow_of c.args.flow) _ _ (at.leads (flow_of c.in-Leads.own)) (sym (ap station_move_of c.in-Leads.is) ∙ c.station_move.ensures)
    c.in_ok-station_writes.ensures

pub step-returns-in-Leads-clause-down : goal.step-returns-in-Leads-clause-down
step-returns-in-Leads-clause-down t c = tt

pub step-returns-in-Asks-clause-same : goal.step-returns-in-Asks-clause-same
step-returns-in-Asks-clause-same t c =
    rw (c.waits.ensures)
    (step_reaches c.args.bound (scoped_statement c.args.s.now) (station_of c.args.station) c.args.value (flow_of c.args.flow) _ _ (at.pauses (at.asks 0 c.in-Asks.kind) (at.at_station (station_of c.in-Asks.next)))
    (sym (ap station_move_of c.in-Asks.is) ∙ c.station_move.ensures) c.in_ok-station_writes.ensures)

pub step-returns-in-Asks-clause-down : goal.step-returns-in-Asks-clause-down
step-returns-in-Asks-clause-down t c = rw (c.waits.ensures) tt

pub step-returns-in-Stops-clause-same : goal.step-returns-in-Stops-clause-same
step-returns-in-Stops-clause-same t c =
    step_reaches c.args.bound (scoped_statement c.args.s.now) (station_of c.args.station) c.args.value (flow_of c.args.flow) _ _ at.stops (sym (ap station_move_of c.in-Stops.is) ∙ c.station_move.ensures) c.in_ok-station_writes.ensures

pub step-returns-in-Stops-clause-down : goal.step-returns-in-Stops-clause-down
step-returns-in-Stops-clause-down t c = tt

pub part-walk-requires : goal.part-walk-requires
part-walk-requires t c =
    let inner = part_inner (scoped_statement c.args.s.now) (station_of c.args.station) (scoped_statement c.in-Some.of.now) (sym c.in-Some.ensures) c.requires in
    let below : statement_size (scoped_statement c.in-Some.of.now) < statement_size (scoped_statement c.args.s.now) = inner.1 in
    (omega (arith, below, c.decreases), inner.0)

pub part-returns-in-Some : goal.part-returns-in-Some
part-returns-in-Some t c =
    IfOk-weaker c.walk.result _ _ (λ done comes. part_there c.args.bound (part_at (scoped_statement c.args.s.now) (station_of c.args.station)) c.args.given c.in-Some.ensures comes) c.walk.ensures

pub walk_value-returns-in-Again : goal.walk_value-returns-in-Again
walk_value-returns-in-Again t c =
    let is = ap (λ x. stepped_of x (footing_of c.behind_value.new.footing)) c.in-Again.is in
    IfOk-weaker c.go_on.result _ _
    (λ done comes. value_comes c.args.bound (scoped_statement c.args.s.now) (station_of c.args.station) _ c.args.given _ c.in_ok-came.ensures c.behind_value.ensures
    (behind_again c.args.bound (scoped_statement c.args.s.now) (station_of c.in-Again.next) c.in-Again.held (flow_of c.in-Again.flow) is comes)) c.go_on.ensures

pub walk_value-returns-in-Stopped : goal.walk_value-returns-in-Stopped
walk_value-returns-in-Stopped t c =
    let on = behind_stopped c.args.bound (scoped_statement c.args.s.now) (ap (λ x. stepped_of x (footing_of c.behind_value.new.footing)) c.in-Stopped.is) in
    value_comes c.args.bound (scoped_statement c.args.s.now) (station_of c.args.station) _ c.args.given _ c.in_ok-came.ensures c.behind_value.ensures on

pub walk-returns-in-At : goal.walk-returns-in-At
walk-returns-in-At t c =
    let on = IfOk-weaker c.go_on.result _ _ (λ done comes. station_comes c.args.bound (scoped_statement c.args.s.now) (station_of c.in-At.station) c.args.given comes) c.go_on.ensures in
    rw (c.in-At.is) on

pub walk-returns-in-InValue : goal.walk-returns-in-InValue
walk-returns-in-InValue t c = rw (c.in-InValue.is, sym c.replace-place.ensures.value) c.walk_value.ensures

pub walk-returns-in-None : goal.walk-returns-in-None
walk-returns-in-None t c =
    let on = part_stays c.args.bound (scoped_statement c.args.s.now) (station_of c.in-InPart.station) _ c.args.given _ _ c.part.new.went _ c.in_ok-part-in-InPart.ensures c.in-None.ensures in
    rw (c.in-InPart.is, sym c.deref_mut.ensures.value) on

pub walk-returns-in-Some : goal.walk-returns-in-Some
walk-returns-in-Some t c =
    let on = IfOk-weaker c.go_on-in-Some.result _ _
    (λ done comes. part_leads c.args.bound (scoped_statement c.args.s.now) (station_of c.in-InPart.station) _ c.args.given c.part.new.went _ (flow_of c.in-Some.flow) c.in_ok-part-in-InPart.ensures c.in-Some.ensures comes) c.go_on-in-Some.ensures in
    rw (c.in-InPart.is, sym c.deref_mut.ensures.value) on
