-- Inner: where a statement stands, how far it came and what a step leads to, as code holds them.
use Rattle.std.specs.Prelude.{Option, Some, None}
use Rattle.lz_model.specs.CodeTraces.{Flow}
use Rattle.lz_stations.specs.declared.footing.Footing.{Footing, At, InValue, InPart'}
use Rattle.lz_stations.specs.declared.footing.Pause as held_pause
use Rattle.lz_stations.specs.declared.footing.Pause.TheVariants as code_pauses
use Rattle.lz_stations.specs.declared.footing.Reached as held_reached
use Rattle.lz_stations.specs.declared.footing.Reached.TheVariants as code_reached
use Rattle.lz_stations.specs.declared.walking.Went as held_went
use Rattle.lz_stations.specs.declared.walking.Went.TheVariants as code_went
use Rattle.lz_stations.specs.declared.walking.Stepped as held_stepped
use Rattle.lz_stations.specs.declared.walking.Stepped.TheVariants.{Again, Stopped}
use Rattle.lz_turns.specs.Stages.{point_of}
use Rattle.lz_stations.specs.Stations as at
use Rattle.lz_stations.specs.StationsHeld.{flow_of, station_of}
use Rattle.lz_stations.specs.Walks.{Stepped, again, stopped}

abbrev pub footing_of : Footing → at.Footing
footing_of (At station) = at.at_station (station_of station)
footing_of (InValue station inner) = at.in_value (station_of station) (point_of inner)
footing_of (InPart' station p inner) = at.in_part (station_of station) (footing_of inner)

abbrev pub pause_of : held_pause.Pause → at.Pause
pause_of (code_pauses.Acts action line) = at.acts action line
pause_of (code_pauses.Reads cell line) = at.reads cell line
pause_of (code_pauses.Asks line kind) = at.asks line kind
pause_of (code_pauses.Signals cond line) = at.signals cond line
pause_of (code_pauses.Creates routine value line) = at.creates routine value line
pause_of (code_pauses.Calls function kinds values) = at.calls_on function kinds.items values.items

abbrev pub reached_of : held_reached.Reached → at.Reached
reached_of (code_reached.Leads flow) = at.leads (flow_of flow)
reached_of (code_reached.Pauses pause footing) = at.pauses (pause_of pause) (footing_of footing)
reached_of (code_reached.Fails kind line) = at.fails kind line
reached_of (code_reached.Refuses line) = at.refuses line
reached_of code_reached.Exits = at.quits
reached_of code_reached.Stops = at.stops

-- how far a statement came that stands here behind a pause
abbrev pub went_of : held_went.Went → at.Footing → at.Reached
went_of (code_went.Leads flow) footing = at.leads (flow_of flow)
went_of (code_went.Pauses pause) footing = at.pauses (pause_of pause) footing
went_of (code_went.Fails kind line) footing = at.fails kind line
went_of (code_went.Refuses line) footing = at.refuses line
went_of code_went.Exits footing = at.quits
went_of code_went.Stops footing = at.stops

-- how a statement led on, if it did
abbrev pub led_of : held_went.Went → Option Flow
led_of (code_went.Leads flow) = Some (flow_of flow)
led_of (code_went.Pauses pause) = None
led_of (code_went.Fails kind line) = None
led_of (code_went.Refuses line) = None
led_of code_went.Exits = None
led_of code_went.Stops = None

-- what a step leads to, where the statement stands here behind a pause
abbrev pub stepped_of : held_stepped.Stepped → at.Footing → Stepped
stepped_of (Again station value flow) footing = again (station_of station) value (flow_of flow)
stepped_of (Stopped went) footing = stopped (went_of went footing)
