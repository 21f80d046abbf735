use Rattle.std.proofs.Common.{sym}
use Rattle.lz_tree.specs.ScopedTrees.{scoped_statement}
use Rattle.lz_turns.specs.Stages.{point_of, came_of}
use Rattle.lz_turns.proofs.AdvanceLemmas.{part_there}
use Rattle.lz_stations.specs.StationMoves.{value_at}
use Rattle.lz_stations.specs.StationsHeld.{station_of}
use Rattle.lz_stations.proofs.PlacesLemmas.{value_fits}
use Rattle.lz_stations.proofs.WalkLemmas.{value_missing}
use Rattle.lz_stations.proofs.walking.value.Goals as goal

pub advance-requires : goal.advance-requires
advance-requires c = value_fits (scoped_statement c.args.s.now) (station_of c.args.station) _ (sym c.in-Some.ensures) c.requires

pub returns-in-None : goal.returns-in-None
returns-in-None c = value_missing (value_at (scoped_statement c.args.s.now) (station_of c.args.station)) (point_of c.args.place) c.args.given _ c.in-None.ensures

pub returns-in_ok-came-in-Some : goal.returns-in_ok-came-in-Some
returns-in_ok-came-in-Some c =
    part_there (value_at (scoped_statement c.args.s.now) (station_of c.args.station)) _ (point_of c.args.place) c.args.given _ _ (came_of c.in_ok-came-in-Some.came) c.in-Some.ensures c.in_ok-came-in-Some.ensures
