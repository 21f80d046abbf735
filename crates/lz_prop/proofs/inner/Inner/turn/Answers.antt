use Rattle.std.proofs.Common.{◌≡◌, ◌-◌, refl, arith}
use Rattle.lz_prop.specs.Watch.{twin}
use Rattle.lz_prop.proofs.WatchersLemmas.{guards_count}
use Rattle.lz_prop.proofs.KeptLemmas.{further_same}
use Rattle.lz_prop.proofs.LookLemmas.{marked_true}
use Rattle.lz_prop.proofs.WalkLemmas.{stands_at, other_read, turn_stays, turn_satisfied}
use Rattle.lz_prop.proofs.inner.Inner.turn.Goals as goal

pub index-requires : goal.index-requires
index-requires c =
    let t = c.args.self.now in
    let inside = (stands_at t c.args.lit c.args.before c.args.at c.requires.kept c.requires.walk c.requires.some).twin_in in
    let same : c.twin.result ≡ twin (c.args.at - 1) = c.twin.ensures in
    let count = guards_count t.watch in
    let n = t.watch.watchers.ok.0 in
    omega arith

pub index-requires-2 : goal.index-requires-2
index-requires-2 c =
    let t = c.args.self.now in
    let read = other_read t c.args.lit c.args.before c.args.at c.twin.result c.index.result.now c.requires.kept c.requires.walk c.requires.some c.twin.ensures c.index.ensures in
    let lt = read.number in
    let n = t.table.truths.ok.0 in
    omega arith

pub returns-then-index-eq1-clause-turned : goal.returns-then-index-eq1-clause-turned
returns-then-index-eq1-clause-turned c =
    let t = c.args.self.now in
    let other = c.index.result.now.lit in
    let read = other_read t c.args.lit c.args.before c.args.at c.twin.result c.index.result.now c.requires.kept c.requires.walk c.requires.some c.twin.ensures c.index.ensures in
    turn_stays t t c.args.lit c.args.before c.args.at c.requires.kept c.requires.walk c.requires.some (further_same t t refl refl refl refl) refl refl
    (turn_satisfied t t c.args.lit c.args.before c.args.at other c.requires.kept c.requires.walk c.requires.some read.is (marked_true t other c.index-2.result.now c.requires.kept read.number c.index-2.ensures c.if-index-eq1.true))

pub turn_on-requires-clause-other : goal.turn_on-requires-clause-other
turn_on-requires-clause-other c =
    (other_read c.args.self.now c.args.lit c.args.before c.args.at c.twin.result c.index.result.now c.requires.kept c.requires.walk c.requires.some c.twin.ensures c.index.ensures).is
