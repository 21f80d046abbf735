-- Inner: stations, and what a statement does at them, as code holds them.
use Rattle.lz_model.specs.CodeTraces as model
use Rattle.lz_stations.specs.declared.station.Flow as held_flow
use Rattle.lz_stations.specs.declared.station.Flow.TheVariants as code_flows
use Rattle.lz_stations.specs.declared.station.Station as held_station
use Rattle.lz_stations.specs.declared.station.Station.TheVariants as code_stations
use Rattle.lz_stations.specs.declared.station.StationMove as held_move
use Rattle.lz_stations.specs.declared.station.StationMove.TheVariants as code_moves
use Rattle.lz_stations.specs.Stations as at
use Rattle.lz_stations.specs.Stations.{Station, StationMove, at_station, leads, pauses, stops, enters_value, enters_part, moves_on, reaches}

abbrev pub flow_of : held_flow.Flow → model.Flow
flow_of code_flows.Normal = model.normal
flow_of code_flows.Breaks = model.breaks
flow_of code_flows.Continues = model.continues
flow_of (code_flows.Returns kind value) = model.returns kind value

abbrev pub station_of : held_station.Station → Station
station_of code_stations.Start = at.start
station_of (code_stations.Led flow) = at.led (flow_of flow)
station_of code_stations.Evaluated = at.evaluated
station_of (code_stations.Listing k) = at.listing k
station_of (code_stations.Listed k) = at.listed k
station_of (code_stations.Declaring k) = at.declaring k
station_of (code_stations.Filling k i) = at.filling k i
station_of (code_stations.Arbitrary k i) = at.arbitrary k i
station_of (code_stations.Filled k i) = at.filled k i
station_of (code_stations.Initialized k) = at.initialized k
station_of code_stations.Tested = at.tested
station_of code_stations.Taken = at.taken
station_of code_stations.Other = at.other
station_of code_stations.Opened = at.opened
station_of (code_stations.Turning left) = at.turning left
station_of (code_stations.Turned left) = at.turned left
station_of (code_stations.Bodied left) = at.bodied left
station_of (code_stations.Changed left) = at.changed left
station_of (code_stations.Doing left) = at.doing left
station_of code_stations.Returned = at.returned
station_of code_stations.Labelled = at.labelled

-- what a statement does at a station: it may lead on, pause for the input of an element, or do nothing more
abbrev pub station_move_of : held_move.StationMove → StationMove
station_move_of (code_moves.EntersValue station) = enters_value (station_of station)
station_move_of (code_moves.EntersPart station) = enters_part (station_of station)
station_move_of (code_moves.MovesOn station) = moves_on (station_of station)
station_move_of (code_moves.Leads flow) = reaches (leads (flow_of flow))
station_move_of (code_moves.Asks kind station) = reaches (pauses (at.asks 0 kind) (at_station (station_of station)))
station_move_of code_moves.Stops = reaches stops
