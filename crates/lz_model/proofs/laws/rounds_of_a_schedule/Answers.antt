use Rattle.lz_model.proofs.ScheduleLemmas.{schedule_rounds}
use Rattle.lz_model.proofs.laws.rounds_of_a_schedule.Goals as goal

pub returns : goal.returns
returns c = schedule_rounds
