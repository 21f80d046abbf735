use Rattle.lz_tree.specs.ScopedTrees.{scoped_program}
use Rattle.lz_slots.proofs.LocalLemmas.{cost_made}
use Rattle.lz_slots.proofs.program.cost.Goals as goal

pub returns : goal.returns
returns c =
    let bodies = rw c.items-functions.ensures at c.in_ok-bodies.ensures in
    let starts = rw (c.items-functions.ensures, c.deref.ensures.value) at c.in_ok-starts.ensures in
    let whole = rw (c.deref-2.ensures.value, c.deref-3.ensures.value) at c.rounds_cost.ensures in
    cost_made (scoped_program c.args.scoped.now) c.args.unwind c.args.rounds _ _ c.in_ok-bodies.bodies.items c.in_ok-starts.starts.items _ c.in_ok-sites.ensures c.plus-threads.ensures bodies starts whole
