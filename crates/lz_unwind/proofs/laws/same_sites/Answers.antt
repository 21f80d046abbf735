use Rattle.lz_tree.specs.ScopedTrees.{function_at}
use Rattle.std.proofs.Common.{suc}
use Rattle.lz_unwind.proofs.SitesLemmas.{thread_sites}
use Rattle.lz_unwind.proofs.laws.same_sites.Goals as goal

pub returns : goal.returns
returns c = λ p n well f there depth. thread_sites p n well depth f 0 (suc (function_at p f).locals) there
