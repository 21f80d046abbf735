use Rattle.lz_model.specs.Programs.{calls_within}
use Rattle.lz_model.proofs.FrontsLemmas.{fronts_calls}
use Rattle.lz_stations.proofs.StationsLemmas.{stations_so}
use Rattle.lz_stations.proofs.laws.a_turn_of_a_statement.Goals as goal

pub returns : goal.returns
returns c = λ p n bound depth s station v flow locals. stations_so (calls_within p n depth) (fronts_calls p n depth) bound s station v flow locals
