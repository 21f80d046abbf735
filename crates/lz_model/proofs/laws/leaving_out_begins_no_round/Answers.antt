use Rattle.lz_model.proofs.FitsLemmas.{fewer_rounds}
use Rattle.lz_model.proofs.laws.leaving_out_begins_no_round.Goals as goal

pub returns : goal.returns
returns c = fewer_rounds
