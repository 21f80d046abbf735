use Rattle.lz_prop.proofs.KeptLemmas.{order_apart}
use Rattle.lz_prop.proofs.trail.Trail.value.Goals as goal

pub value-requires-clause-apart : goal.value-requires-clause-apart
value-requires-clause-apart c = order_apart c.self.inside.inner c.self.invariant
