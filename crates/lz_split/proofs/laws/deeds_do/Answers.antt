use Rattle.lz_split.proofs.DeedsLemmas.{deeds_do}
use Rattle.lz_split.proofs.laws.deeds_do.Goals as goal

pub returns : goal.returns
returns c = deeds_do
