use Rattle.std.proofs.Common.{sym, arith}
use Rattle.lz_calls.proofs.RanksLemmas.{counts_start, counts_turn, ranking_made}
use Rattle.lz_calls.proofs.ranks.ranks_by_reach.Goals as goal

pub returns : goal.returns
returns c = ranking_made c.args.graph.now c.loop-function.ranks.items (omega arith) c.loop-function.invariant.1
