use Rattle.lz_flat.proofs.RunningLemmas.{onward_over}
use Rattle.lz_flat.proofs.laws.groups_run_through.Goals as goal

pub returns : goal.returns
returns c = onward_over
