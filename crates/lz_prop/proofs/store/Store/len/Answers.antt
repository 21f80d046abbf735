use Rattle.std.proofs.Common.{arith}
use Rattle.lz_prop.proofs.StoreLemmas.{length-cut}
use Rattle.lz_prop.proofs.store.Store.len.Goals as goal

pub returns : goal.returns
returns c = let s = c.args.self.now in let long = length-cut s.literals.items s.bounds.items in let n = s.bounds.ok.0 in omega arith
