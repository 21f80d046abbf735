use Rattle.std.proofs.Common.{sym, subst}
use Rattle.lz_prop.specs.Trail.{TrailState, WasOpen}
use Rattle.lz_prop.proofs.trail.Trail.add.Goals as goal

pub add-requires-clause-open : goal.add-requires-clause-open
add-requires-clause-open c = subst (λ (s : TrailState). WasOpen s s.level c.args.clause.now) (sym c.self.view_is) c.requires.open
