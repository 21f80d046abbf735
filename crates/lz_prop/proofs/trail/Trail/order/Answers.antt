use Rattle.std.proofs.Common.{sym, ◌∙◌, ap}
use Rattle.lz_prop.specs.Trail.{TrailState, literals}
use Rattle.lz_prop.proofs.KeptLemmas.{order_is}
use Rattle.lz_prop.proofs.trail.Trail.order.Goals as goal

pub returns : goal.returns
returns c = c.deref.ensures.value ∙ sym (order_is c.self.inside.inner) ∙ ap (λ (s : TrailState). literals s.set) c.self.view_is
