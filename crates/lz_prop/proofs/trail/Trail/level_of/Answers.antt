use Rattle.lz_prop.proofs.KeptLemmas.{order_apart}
use Rattle.lz_prop.proofs.trail.Trail.level_of.Goals as goal

pub level_of-requires-clause-apart : goal.level_of-requires-clause-apart
level_of-requires-clause-apart c = order_apart c.self.inside.inner c.self.invariant
