use Rattle.std.proofs.Common.{ap, refl, arith}
use Rattle.lz_tree.specs.ScopedTrees.{scoped_expression}
use Rattle.lz_tree.proofs.ScopedTreesLemmas.{is_scoped_call}
use Rattle.lz_unwind.specs.Moved.{has_call}
use Rattle.lz_unwind.proofs.HasCallLemmas.{sought_end}
use Rattle.lz_unwind.proofs.moved.+has_call.Goals as goal

pub all_have_call-returns : goal.all_have_call-returns
all_have_call-returns t c = sought_end c.args.items.now c.loop-item.item-index c.loop-item.any (omega arith) c.loop-item.invariant

pub has_call-returns-in-Call : goal.has_call-returns-in-Call
has_call-returns-in-Call t c =
    let is = is_scoped_call c.args.e.now c.in-Call.line c.in-Call.callee c.in-Call.args c.in-Call.kind c.in-Call.is in
    let given = rw (← c.deref-in-Call.ensures.value) at (ap has_call is) in
    rw (given, c.either-in-Call.ensures, c.is_routine.ensures, c.all_have_call.ensures) refl
