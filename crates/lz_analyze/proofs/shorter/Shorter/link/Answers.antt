use Rattle.std.proofs.Common.{refl, sym, subst}
use Rattle.lz_analyze.specs.Chains.{IsReplay}
use Rattle.lz_analyze.proofs.ShorterLemmas.{reason_named, replay_more}
use Rattle.lz_analyze.proofs.shorter.Shorter.link.Goals as goal

pub clause-requires-clause-low : goal.clause-requires-clause-low
clause-requires-clause-low c = (reason_named c.args.trail.now c.args.variable c.in-Some.number c.requires.trail c.in-Some.ensures).0

pub clause-requires-clause-high : goal.clause-requires-clause-high
clause-requires-clause-high c = (reason_named c.args.trail.now c.args.variable c.in-Some.number c.requires.trail c.in-Some.ensures).1

pub returns-in_ok-insert-in-Some-clause-replay : goal.returns-in_ok-insert-in-Some-clause-replay
returns-in_ok-insert-in-Some-clause-replay c have replay =
    let s = c.args.trail.now in
    let old = c.args.self.now in
    subst (IsReplay s have c.insert.new.self.keys) (sym c.in_ok-push-in-Some.ensures.items)
    (replay_more s have c.clause.result.now old.known.keys c.insert.new.self.keys old.links.items c.args.variable c.in-Some.number c.in_ok-insert-in-Some.field-0 c.requires.trail replay c.in-Some.ensures c.clause.ensures
    (c.if-not-are_known.ensures refl) (record { keys = c.in_ok-insert-in-Some.ensures.keys; told = c.in_ok-insert-in-Some.ensures.added }))
