use Rattle.lz_model.specs.ScheduleText.{lines_of}
use Rattle.lz_replay.proofs.LawsLemmas.{one_list}
use Rattle.lz_replay.proofs.laws.one_schedule.Goals as goal

pub returns : goal.returns
returns c = λ text a b h k. one_list (lines_of text) a b h.lines k.lines
