use Rattle.lz_types.proofs.UniqueLemmas.{one_list}
use Rattle.lz_types.proofs.laws.one_list_of_faults.Goals as goal

pub returns : goal.returns
returns c = one_list
