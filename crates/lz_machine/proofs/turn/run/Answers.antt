use Rattle.std.proofs.Common.{sym}
use Rattle.lz_tree.specs.ScopedTrees.{scoped_program}
use Rattle.lz_machine.specs.Held.{running_of, turned_of}
use Rattle.lz_machine.proofs.AdvancesLemmas.{goes_on, has_come, further, arrived}
use Rattle.lz_machine.proofs.turn.run.Goals as goal

pub returns-then-not-goes_again : goal.returns-then-not-goes_again
returns-then-not-goes_again c =
    arrived (scoped_program c.args.program.now) c.args.order.now c.args.bound (running_of c.args.running.now) (running_of c.loop-turned.running) (turned_of c.in_ok-turned.turned c.turn.new.running) c.loop-turned.invariant c.in_ok-turned.ensures
    (has_come c.in_ok-turned.turned c.turn.new.running (sym c.if-not-goes_again.ensures))

pub loop-turned-preserved : goal.loop-turned-preserved
loop-turned-preserved c =
    further (scoped_program c.args.program.now) c.args.order.now c.args.bound (running_of c.args.running.now) (running_of c.loop-turned.running) (running_of c.turn.new.running) (turned_of c.in_ok-turned.turned c.turn.new.running)
    (goes_on c.in_ok-turned.turned c.turn.new.running (sym c.if-not-goes_again.ensures)) c.loop-turned.invariant c.in_ok-turned.ensures
