use Rattle.lz_stations.proofs.StationRanksLemmas.{station_falls}
use Rattle.lz_stations.proofs.laws.steps_end.Goals as goal

pub returns : goal.returns
returns c = λ bound s station v flow. station_falls bound s station v flow
