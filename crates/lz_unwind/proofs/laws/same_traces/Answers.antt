use Rattle.lz_unwind.proofs.ThreadsLemmas.{thread_traces}
use Rattle.lz_unwind.proofs.laws.same_traces.Goals as goal

pub returns : goal.returns
returns c = thread_traces
