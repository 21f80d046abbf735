use Rattle.lz_slots.proofs.SaturationLemmas.{saturated_loop}
use Rattle.lz_slots.proofs.costs.loop_cost.Goals as goal

pub returns : goal.returns
returns c = λ exact_test exact_body test body.
    saturated_loop _ exact_test exact_body test body c.plus.ensures c.plus-2.ensures c.times-turns.ensures c.plus-3.ensures c.plus-4.ensures
