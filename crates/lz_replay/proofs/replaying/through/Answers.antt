use Rattle.std.proofs.Common.{take, arith, sym, subst}
use Rattle.lz_tree.specs.ScopedTrees.{scoped_program}
use Rattle.lz_replay.specs.declared.answer.Replayed.{Replayed}
use Rattle.lz_replay.specs.Replays.{Says}
use Rattle.lz_replay.proofs.ReplayingLemmas.{all_says, turn_went, turn_blocked, turn_broke}
use Rattle.lz_replay.proofs.replaying.through.Goals as goal

pub loop-i-preserved : goal.loop-i-preserved
loop-i-preserved c =
    turn_went (scoped_program c.args.scoped.now) c.args.unwind c.args.steps.now c.loop-i.i (omega (arith, c.loop-i-test.true)) _ c.in_ok-stepped.stepped c.go.new.store c.go.new.threads.items
    (c.in_ok-stepped.ensures (take c.loop-i.i c.args.steps.now) c.loop-i.invariant) c.in-Went.is

pub returns-in-Blocked : goal.returns-in-Blocked
returns-in-Blocked c =
    turn_blocked (scoped_program c.args.scoped.now) c.args.unwind c.args.steps.now c.loop-i.i (omega (arith, c.loop-i-test.true)) _ c.in_ok-stepped.stepped c.loop-i.store c.go.new.store c.loop-i.threads.items c.go.new.threads.items
    c.loop-i.invariant (c.in_ok-stepped.ensures (take c.loop-i.i c.args.steps.now) c.loop-i.invariant) c.in-Blocked.is

pub returns-in-Broke : goal.returns-in-Broke
returns-in-Broke c =
    subst (λ (r : Replayed). Says (scoped_program c.args.scoped.now) c.args.unwind c.args.steps.now r) (sym c.broken.ensures)
    (turn_broke (scoped_program c.args.scoped.now) c.args.unwind c.args.steps.now c.loop-i.i (omega (arith, c.loop-i-test.true)) _ c.in_ok-stepped.stepped c.go.new.store c.go.new.threads.items c.in-Broke.kind c.in-Broke.line
    (c.in_ok-stepped.ensures (take c.loop-i.i c.args.steps.now) c.loop-i.invariant) c.in-Broke.is)

pub returns : goal.returns
returns c = all_says (scoped_program c.args.scoped.now) c.args.unwind c.args.steps.now c.loop-i.i c.loop-i.store c.loop-i.threads.items c.loop-i.invariant (omega (arith, c.loop-i-test.false))
