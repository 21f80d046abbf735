use Rattle.std.proofs.Common.{arith, ap, map, length}
use Rattle.std.proofs.lemmas.List.{length-map}
use Rattle.lz_model.specs.declared.schedule.Step.{Step}
use Rattle.lz_model.proofs.RoundsLemmas.{descents-le}
use Rattle.lz_state_tests.proofs.rounds.rounds_are.Goals as goal

pub rounds-requires : goal.rounds-requires
rounds-requires c =
    let steps = c.args.schedule.now in
    omega (arith, descents-le (map (λ (step : Step). step.thread) steps), length-map steps (λ (step : Step). step.thread), ap length c.items.ensures)
