use Rattle.std.proofs.Common.{[], ◌∷◌, ◌++◌, length, ◌∙◌, ap, arith}
use Rattle.std.proofs.lemmas.List.{length-append}
use Rattle.lz_prop.specs.Watchers.{guards_of}
use Rattle.lz_prop.proofs.WatchersLemmas.{guards_count}
use Rattle.lz_prop.proofs.LookLemmas.{places, guard_kept}
use Rattle.lz_prop.proofs.inner.Inner.guard.Goals as goal

pub push-requires-clause-few : goal.push-requires-clause-few
push-requires-clause-few c = let p = (places c.args.self.now c.requires.kept c.requires.within).few in omega arith

pub push-requires-clause-room : goal.push-requires-clause-room
push-requires-clause-room c = let t = c.args.self.now in let p = (places t c.requires.kept c.requires.within).room in let n = t.watch.watchers.ok.0 in omega arith

pub push-requires-2-clause-few : goal.push-requires-2-clause-few
push-requires-2-clause-few c =
    let t = c.args.self.now in
    let p = (places t c.requires.kept c.requires.within).few in
    let long = ap length c.push.ensures.guards ∙ length-append (guards_of t.watch) (c.args.one ∷ []) in
    let old = guards_count t.watch in
    let now = guards_count c.push.new.self in
    omega arith

pub push-requires-2-clause-room : goal.push-requires-2-clause-room
push-requires-2-clause-room c =
    let t = c.args.self.now in
    let p = (places t c.requires.kept c.requires.within).room in
    let same = c.push.ensures.room in
    let long = ap length c.push.ensures.guards ∙ length-append (guards_of t.watch) (c.args.one ∷ []) in
    let old = guards_count t.watch in
    let now = guards_count c.push.new.self in
    let n = c.push.new.self.watchers.ok.0 in
    omega arith

pub returns-clause-kept : goal.returns-clause-kept
returns-clause-kept c = guard_kept c.args.self.now c.push-2.new.self c.args.one c.args.other c.requires.kept c.requires.within
    (record {
      listed = c.push-2.ensures.listed;
      guards = c.push-2.ensures.guards ∙ ap (λ xs. xs ++ c.args.other ∷ []) c.push.ensures.guards;
      firsts = c.push-2.ensures.firsts ∙ c.push.ensures.firsts;
      room = c.push-2.ensures.room ∙ c.push.ensures.room;
    })
    c.requires.now c.requires.were
