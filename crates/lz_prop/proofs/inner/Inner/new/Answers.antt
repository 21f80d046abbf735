use Rattle.std.proofs.Common.{arith}
use Rattle.lz_prop.proofs.StoreLemmas.{length-cut}
use Rattle.lz_prop.proofs.inner.Inner.new.Goals as goal

pub overflow_cast-len : goal.overflow_cast-len
overflow_cast-len c = let s = c.in_ok-store.store in let long = length-cut s.literals.items s.bounds.items in let few = c.in_ok-store.ensures.store.few in omega arith
