use Rattle.std.proofs.Common.{replicate}
use Rattle.lz_tree.specs.ScopedTrees.{scoped_program}
use Rattle.lz_choices.specs.MainAlone.{main_step}
use Rattle.lz_replay.proofs.DecidingLemmas.{goes, stops, breaks}
use Rattle.lz_replay.proofs.deciding.run_main.Goals as goal

pub loop-steps-preserved : goal.loop-steps-preserved
loop-steps-preserved c =
    goes (scoped_program c.args.scoped.now) c.args.unwind c.loop-steps.steps c.go.new.store c.go.new.threads.items c.in_ok-stepped.stepped
    (c.in_ok-stepped.ensures (replicate c.loop-steps.steps main_step) c.loop-steps.invariant) c.in-Went.is

pub returns-in-Blocked : goal.returns-in-Blocked
returns-in-Blocked c =
    stops (scoped_program c.args.scoped.now) c.args.unwind
    (record { are = λ run schedule is follows. c.only_main_steps.ensures (scoped_program c.args.scoped.now) c.args.unwind run schedule c.requires.sequential is follows })
    c.loop-steps.steps c.loop-steps.store c.go.new.store c.loop-steps.threads.items c.go.new.threads.items c.loop-steps.invariant c.in_ok-stepped.stepped
    (c.in_ok-stepped.ensures (replicate c.loop-steps.steps main_step) c.loop-steps.invariant) c.in-Blocked.is

pub returns-in-Broke : goal.returns-in-Broke
returns-in-Broke c =
    breaks (scoped_program c.args.scoped.now) c.args.unwind c.loop-steps.steps c.go.new.store c.go.new.threads.items c.in_ok-stepped.stepped c.in-Broke.kind c.in-Broke.line
    c.in_ok-schedule-in-Broke.schedule (c.in_ok-stepped.ensures (replicate c.loop-steps.steps main_step) c.loop-steps.invariant) c.in-Broke.is c.in_ok-schedule-in-Broke.ensures
