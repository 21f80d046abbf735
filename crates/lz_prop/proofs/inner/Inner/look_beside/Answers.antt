use Rattle.std.proofs.Common.{get_or, take}
use Rattle.lz_prop.specs.Stored.{clauses_of}
use Rattle.lz_prop.proofs.LookLemmas.{pair_guards}
use Rattle.lz_prop.proofs.inner.Inner.look_beside.Goals as goal

pub guard-requires-clause-now : goal.guard-requires-clause-now
guard-requires-clause-now c d =
    let t = c.args.self.now in
    pair_guards t (get_or (clauses_of t.store) t.seen d) t.table.order.items t.head c.args.lit c.in-Some.other c.requires.kept (c.requires.left d) (c.in-Some.ensures d)

pub guard-requires-clause-were : goal.guard-requires-clause-were
guard-requires-clause-were c d k lt =
    let t = c.args.self.now in
    pair_guards t (get_or (clauses_of t.store) t.seen d) (take (get_or t.starts.items k 0) t.table.order.items) (get_or t.fronts.items k 0) c.args.lit c.in-Some.other c.requires.kept (c.requires.left d) (c.in-Some.ensures d)
