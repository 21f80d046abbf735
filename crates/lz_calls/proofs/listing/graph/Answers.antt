use Rattle.std.proofs.Common.{◌∙◌, sym, arith}
use Rattle.lz_tree.specs.ScopedTrees.{scoped_definition}
use Rattle.lz_calls.proofs.ListingLemmas.{graph_of-of, so_far_end}
use Rattle.lz_calls.proofs.listing.graph.Goals as goal

pub returns : goal.returns
returns c = so_far_end (omega arith) c.loop-function.invariant ∙ sym (graph_of-of scoped_definition c.args.functions.now)
