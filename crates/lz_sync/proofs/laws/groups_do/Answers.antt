use Rattle.lz_sync.proofs.GroupsLemmas.{groups_do}
use Rattle.lz_sync.proofs.laws.groups_do.Goals as goal

pub returns : goal.returns
returns c = groups_do
