use Rattle.std.proofs.Common.{arith}
use Rattle.lz_prop.proofs.KeptLemmas.{level_fits}
use Rattle.lz_prop.proofs.inner.Inner.level.Goals as goal

pub overflow_cast-result : goal.overflow_cast-result
overflow_cast-result c = let t = c.args.self.now in let fits = level_fits t c.requires in let few = c.requires.few in let n = t.starts.ok.0 in omega arith
