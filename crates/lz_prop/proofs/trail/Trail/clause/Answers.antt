use Rattle.std.proofs.Common.{◌-◌, get_or, ◌∙◌, ap}
use Rattle.lz_prop.specs.Trail.{TrailState}
use Rattle.lz_prop.proofs.KeptLemmas.{named_holds}
use Rattle.lz_prop.proofs.trail.Trail.clause.Goals as goal

pub returns : goal.returns
returns c = named_holds c.args.self.now c.args.number c.clause.result.now c.requires.low c.requires.high (λ d. c.clause.ensures d ∙ ap (λ (s : TrailState). get_or s.clauses (c.args.number - 1) d) c.self.view_is)
