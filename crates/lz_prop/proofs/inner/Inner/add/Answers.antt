use Rattle.std.proofs.Common.{arith}
use Rattle.lz_prop.proofs.StoreLemmas.{length-cut}
use Rattle.lz_prop.proofs.inner.Inner.add.Goals as goal

pub overflow_cast-result : goal.overflow_cast-result
overflow_cast-result c = let s = c.keep.new.self.store in let long = length-cut s.literals.items s.bounds.items in let few = c.keep.ensures.kept.store.few in omega arith
