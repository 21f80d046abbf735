use Rattle.std.proofs.Common.{◌≡◌, ◌+◌, ◌∷◌, map, drop}
use Rattle.lz_base.specs.Descents.{descents}
use Rattle.lz_model.proofs.schedule.rounds.Given as goal

-- the descents so far, and those from the thread before on, are all
abbrev pub invariant-loop-step : goal.invariant-loop-step
invariant-loop-step l =
    l.descents + descents (l.before ∷ map (λ step. step.thread) (drop l.step-index l.step-items)) ≡ descents (map (λ step. step.thread) l.step-items)
