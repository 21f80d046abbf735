use Rattle.lz_model.proofs.ThreadFrontsLemmas.{front_of_trace}
use Rattle.lz_model.proofs.laws.front_of_a_trace.Goals as goal

pub returns : goal.returns
returns c = front_of_trace
