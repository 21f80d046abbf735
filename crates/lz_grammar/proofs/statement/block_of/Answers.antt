use Rattle.lz_tree.proofs.TreesLemmas.{statement-block}
use Rattle.lz_grammar.proofs.statement.block_of.Goals as goal

pub returns : goal.returns
returns c = statement-block c.args.parts
