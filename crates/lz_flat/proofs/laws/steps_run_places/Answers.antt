use Rattle.lz_flat.proofs.PlacesLemmas.{runs_its_count, breaks_at_its_last}
use Rattle.lz_flat.proofs.laws.steps_run_places.Goals as goal

pub returns-clause-count : goal.returns-clause-count
returns-clause-count c = runs_its_count

pub returns-clause-last : goal.returns-clause-last
returns-clause-last c = breaks_at_its_last
