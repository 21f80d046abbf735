use Rattle.lz_model.proofs.OneRunLemmas.{one_run}
use Rattle.lz_model.proofs.laws.one_run_a_schedule.Goals as goal

pub returns : goal.returns
returns c = one_run
