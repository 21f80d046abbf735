use Rattle.lz_prop.proofs.KeptLemmas.{order_apart}
use Rattle.lz_prop.proofs.trail.Trail.reason.Goals as goal

pub reason-requires-clause-apart : goal.reason-requires-clause-apart
reason-requires-clause-apart c = order_apart c.self.inside.inner c.self.invariant
