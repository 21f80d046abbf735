use Rattle.lz_tree.proofs.ScopedTreesLemmas.{scoped_statement-block}
use Rattle.lz_resolve.proofs.statements.block_of.Goals as goal

pub returns : goal.returns
returns c = scoped_statement-block c.args.parts
