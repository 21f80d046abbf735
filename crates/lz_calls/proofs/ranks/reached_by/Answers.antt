use Rattle.lz_calls.proofs.RanksLemmas.{count_made}
use Rattle.lz_calls.proofs.ranks.reached_by.Goals as goal

pub returns : goal.returns
returns c = count_made c.args.graph.now c.args.function c.marked.result c.in_ok-marks.marks.items c.deref.result.now c.in_ok-marks.ensures c.deref.ensures.value c.marked.ensures
