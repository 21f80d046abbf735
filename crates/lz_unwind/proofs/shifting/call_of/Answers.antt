use Rattle.lz_tree.proofs.ScopedTreesLemmas.{scoped_expression-call}
use Rattle.lz_unwind.proofs.shifting.call_of.Goals as goal

pub returns : goal.returns
returns c = scoped_expression-call c.args.line c.args.callee c.args.args c.args.kind
