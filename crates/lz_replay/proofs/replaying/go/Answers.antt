use Rattle.std.proofs.Common.{Option, subst}
use Rattle.lz_tree.specs.ScopedTrees.{scoped_program}
use Rattle.lz_replay.specs.declared.threads.Taken.{Taken}
use Rattle.lz_replay.specs.Replaying.{HasTaken}
use Rattle.lz_replay.proofs.ReplayingLemmas.{none_taken, steps_on}
use Rattle.lz_replay.proofs.replaying.go.Goals as goal

pub returns-in-None : goal.returns-in-None
returns-in-None c = λ steps is.
    let p = scoped_program c.args.scoped.now in
    none_taken p c.args.unwind steps c.args.store.now c.args.threads.now.items is c.args.step
    (subst (λ (taken : Option Taken). HasTaken p c.args.unwind c.args.store.now c.args.step c.args.threads.now.items taken c.next.new.threads.items) c.in-None.is c.in_ok-taken.ensures)

pub returns-in_ok-stepped-in-Some : goal.returns-in_ok-stepped-in-Some
returns-in_ok-stepped-in-Some c = λ steps is.
    let p = scoped_program c.args.scoped.now in
    steps_on p c.args.unwind steps c.args.store.now c.args.threads.now.items is c.args.step c.in-Some.taken c.next.new.threads.items
    (subst (λ (taken : Option Taken). HasTaken p c.args.unwind c.args.store.now c.args.step c.args.threads.now.items taken c.next.new.threads.items) c.in-Some.is c.in_ok-taken.ensures)
    c.in_ok-stepped-in-Some.stepped c.act.new.store c.act.new.threads.items c.in_ok-stepped-in-Some.ensures
