use Rattle.lz_model.specs.Programs.{process_of}
use Rattle.lz_model.proofs.RunFrontsLemmas.{front_of_run}
use Rattle.lz_model.proofs.ThreadFrontsLemmas.{program_is_open}
use Rattle.lz_model.proofs.laws.front_of_a_run.Goals as goal

pub returns : goal.returns
returns c = λ p n front rest is. front_of_run (process_of p n) (program_is_open p n) front rest is
