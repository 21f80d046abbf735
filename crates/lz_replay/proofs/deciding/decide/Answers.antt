use Rattle.std.proofs.Common.{List, subst}
use Rattle.std.specs.Prelude.{None}
use Rattle.lz_tree.specs.ScopedTrees.{scoped_program}
use Rattle.lz_replay.specs.declared.threads.Held.{Held}
use Rattle.lz_replay.specs.Taking.{IsAdded}
use Rattle.lz_replay.proofs.ReplayingLemmas.{is_begun}
use Rattle.lz_replay.proofs.deciding.decide.Goals as goal

pub run_main-requires-clause-begins : goal.run_main-requires-clause-begins
run_main-requires-clause-begins c =
    let p = scoped_program c.args.scoped.now in
    let added = subst (λ (before : List Held). IsAdded p None 0 before c.start.new.threads.items) c.new-threads.ensures.items c.in_ok-start.ensures in
    is_begun p c.args.unwind c.start.new.threads.items added c.in_ok-store.store c.in_ok-store.ensures
