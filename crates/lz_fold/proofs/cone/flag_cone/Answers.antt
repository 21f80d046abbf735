use Rattle.std.proofs.Common.{◌-◌, ◌+◌, length, arith}
use Rattle.lz_ssa.specs.declared.node.Node.TheVariants.{Constant}
use Rattle.lz_fold.proofs.ConeLemmas.{operands_at, closed_turn}
use Rattle.lz_fold.proofs.cone.flag_cone.Goals as goal

pub need_at-requires-clause-operands : goal.need_at-requires-clause-operands
need_at-requires-clause-operands c = operands_at c.args.list.now (length c.args.list.now - 1 - c.loop-left.left) (Constant 0) c.requires.nodes (omega arith)

pub loop-left-preserved : goal.loop-left-preserved
loop-left-preserved c = record {
  count = let n = c.need_at.ensures.count in let m = c.loop-left.invariant.count in omega (arith, n, m);
  more = λ k needed. c.need_at.ensures.more k (c.loop-left.invariant.more k needed);
  closed = closed_turn c.args.list.now c.loop-left.flags.items c.need_at.new.flags.items (length c.args.list.now - c.loop-left.left) (length c.args.list.now - 1 - c.loop-left.left)
      (length c.args.list.now - (c.loop-left.left + 1)) (Constant 0) (omega arith) (omega arith) c.loop-left.invariant.closed c.need_at.ensures.more c.need_at.ensures.above c.need_at.ensures.here;
}
