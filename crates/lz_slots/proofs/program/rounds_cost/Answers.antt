use Rattle.lz_slots.proofs.LocalLemmas.{rounds_sum}
use Rattle.lz_slots.proofs.program.rounds_cost.Goals as goal

pub returns : goal.returns
returns c = rounds_sum _ c.number_at.ensures c.plus-own.ensures c.number_at-2.ensures c.plus.ensures c.times.ensures
