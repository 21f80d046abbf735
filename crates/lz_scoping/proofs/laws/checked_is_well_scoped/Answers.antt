use Rattle.lz_scoping.proofs.FileLemmas.{well_scoped}
use Rattle.lz_scoping.proofs.laws.checked_is_well_scoped.Goals as goal

pub returns : goal.returns
returns c = well_scoped
