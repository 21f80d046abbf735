use Rattle.lz_slots.proofs.ArgumentLemmas.{second_length-short}
use Rattle.lz_slots.proofs.costs.second_length.Goals as goal

pub returns-in_default : goal.returns-in_default
returns-in_default c = second_length-short _ _ c.in_default.len_below
