use Rattle.std.proofs.Common.{ap}
use Rattle.lz_tree.specs.ScopedTrees.{scoped_program, scoped_definition}
use Rattle.lz_stations.specs.WalksHeld.{footing_of, reached_of}
use Rattle.lz_machine.specs.Held.{callers_of, turned_of}
use Rattle.lz_machine.proofs.AdvancesLemmas.{advances, body_fits, is_found}
use Rattle.lz_machine.proofs.turn.turn.Goals as goal

pub advance_statement-requires : goal.advance_statement-requires
advance_statement-requires c = body_fits (scoped_program c.args.program.now) c.args.running.now.function (scoped_definition c.in-Some.function.now) c.in-Some.ensures c.requires.program.fit

pub returns-in-None : goal.returns-in-None
returns-in-None c = is_found (scoped_program c.args.program.now) c.args.running.now.function c.in-None.ensures c.requires.of.0

pub returns-in_ok-turned-in-Some : goal.returns-in_ok-turned-in-Some
returns-in_ok-turned-in-Some c =
    let r = c.args.running.now in
    let reached = rw (ap footing_of c.replace-footing.ensures.value) at c.in_ok-reached-in-Some.ensures in
    advances (scoped_program c.args.program.now) c.args.order.now c.args.bound c.requires.program.calls _ (callers_of r.callers.items) c.requires.of (scoped_definition c.in-Some.function.now) c.in-Some.ensures
    _ r.locals.handles.items _ r.given r.made (reached_of c.in_ok-reached-in-Some.reached) (turned_of c.in_ok-turned-in-Some.turned c.came.new.running) reached c.in_ok-turned-in-Some.ensures
