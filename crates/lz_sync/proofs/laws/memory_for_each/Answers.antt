use Rattle.lz_sync.proofs.ReachingLemmas.{memory_for_each}
use Rattle.lz_sync.proofs.laws.memory_for_each.Goals as goal

pub returns : goal.returns
returns c = memory_for_each
