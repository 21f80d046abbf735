use Rattle.lz_slots.proofs.ArgumentLemmas.{start_of-short}
use Rattle.lz_slots.proofs.sites.start_of.Goals as goal

pub returns-in_default : goal.returns-in_default
returns-in_default c = start_of-short _ _ c.in_default.len_below
