use Rattle.std.proofs.Common.{length, arith, refl}
use Rattle.lz_points.proofs.LoopsLemmas.{threads_call, threads_turn, threads_within, threads_end}
use Rattle.lz_points.proofs.thin.thin_threads.Goals as goal

pub loop-t-init : goal.loop-t-init
loop-t-init c = record { left = refl; within = c.requires.within }

pub thin_code-requires : goal.thin_code-requires
thin_code-requires c = record { within = threads_call (length c.args.tags.now) c.loop-t.threads c.loop-t.t c.index-threads-t.result c.items_mut.result.now (omega arith) c.items_mut.ensures.items c.loop-t.invariant.within }

pub loop-t-preserved : goal.loop-t-preserved
loop-t-preserved c = record {
  left = threads_turn c.args.tags.now c.loop-t.threads c.loop-t.t c.index-threads-t.result c.thin_code.new.code c.items_mut.result.now _ (omega arith) c.items_mut.ensures.items c.thin_code.auto.code c.thin_code.ensures c.loop-t.invariant.left;
  within = threads_within (length c.args.tags.now) c.loop-t.threads c.loop-t.t c.index-threads-t.result c.thin_code.new.code c.items_mut.result.now c.items_mut.ensures.items c.thin_code.auto.code c.loop-t.invariant.within;
}

pub returns : goal.returns
returns c = threads_end c.args.tags.now c.loop-t.threads c.args.threads.now c.loop-t.t (omega arith) c.loop-t.invariant.left
