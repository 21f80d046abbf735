use Rattle.std.proofs.Common.{◌-◌, ◌<◌, arith}
use Rattle.lz_prop.proofs.KeptLemmas.{further_join}
use Rattle.lz_prop.proofs.WatchersLemmas.{guards_count, next_count, next_read}
use Rattle.lz_prop.proofs.WalkLemmas.{walk_number, walking_begins, walking_more, behind_within, walk_ends, walk_short}
use Rattle.lz_prop.proofs.inner.Inner.walk.Goals as goal

pub index-requires : goal.index-requires
index-requires c =
    let t = c.args.self.now in
    let number = walk_number t c.args.lit c.requires.kept c.requires.waiting c.requires.lit in
    let n = t.watch.firsts.ok.0 in
    omega arith

pub loop-init : goal.loop-init
loop-init c =
    let t = c.args.self.now in
    walking_begins t c.args.lit c.index.result.now _ c.requires.kept c.requires.waiting c.requires.lit c.index.ensures (let count = guards_count t.watch in let n = t.watch.watchers.ok.0 in omega arith)

pub returns-then-at-eq0-clause-outcome : goal.returns-then-at-eq0-clause-outcome
returns-then-at-eq0-clause-outcome c = walk_ends c.loop.self c.args.lit c.loop.before c.loop.at c.loop.invariant.kept c.loop.invariant.walk c.if-at-eq0.true

pub index-requires-in-loop : goal.index-requires-in-loop
index-requires-in-loop c =
    let t = c.loop.self in
    let ne = c.if-at-eq0.false in
    let some : 0 < c.loop.at = omega (arith, ne) in
    let lt = behind_within t c.args.lit c.loop.before c.loop.at c.loop.invariant.kept c.loop.invariant.walk some in
    let count = next_count t.watch in
    let n = t.watch.watchers.ok.0 in
    omega arith

pub loop-preserved : goal.loop-preserved
loop-preserved c =
    let ne = c.if-at-eq0.false in
    let t = c.loop.self in
    let some : 0 < c.loop.at = omega (arith, ne) in
    let lt = behind_within t c.args.lit c.loop.before c.loop.at c.loop.invariant.kept c.loop.invariant.walk some in
    let count = next_count t.watch in
    walking_more c.args.self.now c.loop.self c.turn.new.self c.args.lit c.loop.before c.loop.at c.in-Some.now c.index-in-loop.result.now.next c.loop.counter _ c.loop.invariant some (next_read t.watch (c.loop.at - 1) c.index-in-loop.result.now (omega arith) c.index-in-loop.ensures)
    c.turn.ensures.kept c.turn.ensures.further c.turn.ensures.head c.turn.ensures.seen c.in-Some.ensures.turned

pub returns-in-None-clause-further : goal.returns-in-None-clause-further
returns-in-None-clause-further c = further_join c.args.self.now c.loop.self c.turn.new.self c.loop.invariant.further c.turn.ensures.further

pub returns-clause-outcome : goal.returns-clause-outcome
returns-clause-outcome c =
    let end = c.loop-test.false in
    walk_ends c.loop.self c.args.lit c.loop.before c.loop.at c.loop.invariant.kept c.loop.invariant.walk
    (walk_short c.loop.self c.args.lit c.loop.before c.loop.at c.loop.counter _ c.loop.invariant.walk c.loop.invariant.few (omega arith))
