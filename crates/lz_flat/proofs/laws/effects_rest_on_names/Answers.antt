use Rattle.lz_flat.proofs.NamingLemmas.{rest_on_names}
use Rattle.lz_flat.proofs.laws.effects_rest_on_names.Goals as goal

pub returns : goal.returns
returns c = rest_on_names
