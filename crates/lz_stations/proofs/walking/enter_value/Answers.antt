use Rattle.lz_tree.specs.ScopedTrees.{scoped_statement}
use Rattle.lz_turns.specs.Stages.{came_of}
use Rattle.lz_stations.specs.StationsHeld.{station_of}
use Rattle.lz_stations.proofs.WalkLemmas.{value_entered}
use Rattle.lz_stations.proofs.walking.enter_value.Goals as goal

pub returns : goal.returns
returns c = value_entered (scoped_statement c.args.s.now) (station_of c.args.station) _ _ (came_of c.in_ok-came.came) _ c.in_ok-came.ensures c.behind_value.ensures
