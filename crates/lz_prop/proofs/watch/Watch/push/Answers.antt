use Rattle.std.proofs.Common.{◌≡◌, suc, get_or, length, ◌∙◌, arith}
use Rattle.std.proofs.lemmas.List.{get_or_default}
use Rattle.lz_prop.proofs.WatchLemmas.{listed_more}
use Rattle.lz_prop.proofs.WatchersLemmas.{guards_count, guards_pushed, next_pushed}
use Rattle.lz_prop.specs.Watchers.{guards_of, next_of}
use Rattle.lz_prop.proofs.watch.Watch.push.Goals as goal

pub returns-clause-listed : goal.returns-clause-listed
returns-clause-listed c =
    let w = c.args.self.now in
    let v = record w { watchers = c.push_reserved.new.self } in
    let n = w.watchers.ok.0 in
    let count = guards_count w in
    let len : c.len.result ≡ suc (length (guards_of w)) = (let m = c.push_reserved.ensures.len in omega arith) in
    let first : c.index-next.result.now ≡ get_or w.firsts.items c.args.lit.0 0 = c.index-next.ensures ∙ get_or_default w.firsts.items c.args.lit.0 c.index-next.result.now 0 c.requires.number in
    let guards = guards_pushed w v _ c.push_reserved.ensures.items in
    let links = next_pushed w v _ c.push_reserved.ensures.items in
    rw (guards, links, first, len) (listed_more (guards_of w) (next_of w) w.firsts.items c.args.lit c.requires.listed c.requires.number)

pub returns-clause-guards : goal.returns-clause-guards
returns-clause-guards c = guards_pushed c.args.self.now (record c.args.self.now { watchers = c.push_reserved.new.self }) _ c.push_reserved.ensures.items
