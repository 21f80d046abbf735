use Rattle.std.proofs.Common.{ap}
use Rattle.std.proofs.Math.Seq.{map-set_same}
use Rattle.std.proofs.lemmas.List.{map-set}
use Rattle.lz_prop.specs.declared.watch.Watcher.{Watcher}
use Rattle.lz_prop.proofs.watch.Watch.link.Goals as goal

pub returns-clause-guards : goal.returns-clause-guards
returns-clause-guards c =
    let x : Watcher = record { lit = c.index.result.now.lit; next = c.args.behind } in
    map-set_same (λ (y : Watcher). y.lit) c.args.self.now.watchers.items c.args.watcher x c.index.result.now (ap (λ (y : Watcher). y.lit) c.index.ensures)

pub returns-clause-next : goal.returns-clause-next
returns-clause-next c =
    let x : Watcher = record { lit = c.index.result.now.lit; next = c.args.behind } in
    map-set (λ (y : Watcher). y.next) c.args.self.now.watchers.items c.args.watcher x
