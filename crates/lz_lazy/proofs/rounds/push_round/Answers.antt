use Rattle.std.proofs.Common.{arith}
use Rattle.lz_lazy.proofs.RoundingLemmas.{thread_turn, threads_done}
use Rattle.lz_lazy.proofs.rounds.push_round.Goals as goal

pub loop-thread-preserved : goal.loop-thread-preserved
loop-thread-preserved c =
    let new = rw c.items.ensures at c.in_ok-push_block.ensures in
    thread_turn c.args.flat.now c.items-threads.result.now _ c.items-threads.ensures c.requires.words c.loop-thread-test.true c.index-threads-thread.is c.loop-thread.invariant new

pub returns : goal.returns
returns c = threads_done c.args.flat.now c.items-threads.result.now c.items-threads.ensures (omega arith) c.loop-thread.invariant
