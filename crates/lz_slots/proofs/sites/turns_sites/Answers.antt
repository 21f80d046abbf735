use Rattle.std.proofs.Common.{◌≡◌, ◌∙◌, arith}
use Rattle.lz_slots.specs.Nesting.{saturated}
use Rattle.lz_slots.proofs.SaturationLemmas.{saturated_product}
use Rattle.lz_slots.proofs.sites.turns_sites.Goals as goal

pub returns : goal.returns
returns c = λ exact turn.
    let alike : saturated c.args.turn ≡ saturated exact = omega arith in
    c.times.ensures ∙ saturated_product c.args.turns c.args.turn exact alike
