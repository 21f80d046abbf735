use Rattle.lz_flat.proofs.DrivenLemmas.{run_breaks}
use Rattle.lz_flat.proofs.laws.inputs_drive_a_run.Goals as goal

pub returns : goal.returns
returns c = run_breaks
