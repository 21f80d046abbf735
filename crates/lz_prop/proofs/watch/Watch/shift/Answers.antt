use Rattle.std.proofs.Common.{◌≡◌, ℕ, ◌-◌, ◌<◌, List, length, get_or, set, sym, ◌∙◌, ap, subst, arith}
use Rattle.std.proofs.lemmas.List.{get_or_default, map-set}
use Rattle.lz_cnf.specs.declared.clause.Lit.{Lit}
use Rattle.lz_prop.specs.declared.watch.Watcher.{Watcher}
use Rattle.lz_prop.specs.Watch.{next_without, firsts_without}
use Rattle.lz_prop.specs.Watchers.{next_of}
use Rattle.lz_prop.proofs.WatchLemmas.{length-firsts_without}
use Rattle.lz_prop.proofs.WatchersLemmas.{next_read}
use Rattle.lz_prop.proofs.watch.Watch.shift.Goals as goal

pub returns-clause-guards : goal.returns-clause-guards
returns-clause-guards c =
    let x : Watcher = record { lit = c.args.to; next = c.index-next.result.now } in
    map-set (λ (y : Watcher). y.lit) c.unlink.new.self.watchers.items (c.args.at - 1) x ∙ ap (λ (xs : List Lit). set xs (c.args.at - 1) c.args.to) c.unlink.ensures.guards

pub returns-clause-next : goal.returns-clause-next
returns-clause-next c =
    let t = c.args.self.now in
    let u = c.unlink.new.self in
    let w = c.args.at - 1 in
    let some = c.requires.some in let within = c.requires.within in
    let behind = next_read t w c.index.result.now (omega arith) c.index.ensures in
    let links : next_of u ≡ next_without (next_of t) c.args.before (get_or (next_of t) w 0) = c.unlink.ensures.next ∙ ap (next_without (next_of t) c.args.before) behind in
    let firsts : u.firsts.items ≡ firsts_without t.firsts.items c.args.lit.0 c.args.before (get_or (next_of t) w 0) = c.unlink.ensures.firsts ∙ ap (firsts_without t.firsts.items c.args.lit.0 c.args.before) behind in
    let number : c.args.to.0 < length u.firsts.items =
    subst (λ (n : ℕ). c.args.to.0 < n) (sym (ap length firsts ∙ length-firsts_without t.firsts.items c.args.lit.0 c.args.before (get_or (next_of t) w 0))) c.requires.number_to in
    let first : c.index-next.result.now ≡ get_or (firsts_without t.firsts.items c.args.lit.0 c.args.before (get_or (next_of t) w 0)) c.args.to.0 0 =
    c.index-next.ensures ∙ get_or_default u.firsts.items c.args.to.0 c.index-next.result.now 0 number ∙ ap (λ (fs : List ℕ). get_or fs c.args.to.0 0) firsts in
    let x : Watcher = record { lit = c.args.to; next = c.index-next.result.now } in
    map-set (λ (y : Watcher). y.next) u.watchers.items w x
    ∙ ap (set (next_of u) w) first
    ∙ ap (λ (xs : List ℕ). set xs w (get_or (firsts_without t.firsts.items c.args.lit.0 c.args.before (get_or (next_of t) w 0)) c.args.to.0 0)) links
