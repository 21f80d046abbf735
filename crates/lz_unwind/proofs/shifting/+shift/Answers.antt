use Rattle.std.proofs.Common.{map, arith}
use Rattle.lz_tree.specs.ScopedTrees.{scoped_expression, scoped_expressions_of}
use Rattle.lz_tree.proofs.ScopedTreesLemmas.{is_scoped_call}
use Rattle.lz_unwind.proofs.ShiftingLemmas.{moved_more, moved_all, moved_call}
use Rattle.lz_unwind.proofs.shifting.+shift.Goals as goal

pub shift_all-loop-e-preserved : goal.shift_all-loop-e-preserved
shift_all-loop-e-preserved t c =
    moved_more c.args.by _ c.loop-e.all.items _ c.args.args.now c.loop-e.e-index c.e-item.result c.in_ok-shifted.shifted
    c.loop-e.invariant c.loop-e-test.true c.e-item.is c.in_ok-shifted.ensures c.in_ok-push.ensures.items

pub shift_all-returns : goal.shift_all-returns
shift_all-returns t c = moved_all c.args.by _ c.loop-e.all.items c.args.args.now c.loop-e.e-index c.loop-e.invariant (omega arith)

pub shift-returns-in_ok-args-in-Call : goal.shift-returns-in_ok-args-in-Call
shift-returns-in_ok-args-in-Call t c =
    let is = is_scoped_call c.args.e.now c.in-Call.line c.in-Call.callee c.in-Call.args c.in-Call.kind c.in-Call.is in
    moved_call c.args.by (scoped_expression c.args.e.now) (scoped_expression c.call_of.result) c.in-Call.line c.in-Call.callee
    (scoped_expressions_of (map scoped_expression c.deref-in-Call.result.now)) _ c.in-Call.kind
    (rw (← c.deref-in-Call.ensures.value) at is) c.in_ok-args-in-Call.ensures c.call_of.ensures
