use Rattle.std.proofs.Common.{◌≡◌, replicate}
use Rattle.lz_choices.specs.MainAlone.{main_step}
use Rattle.lz_replay.proofs.deciding.main_steps.Given as goal

-- the steps so far
abbrev pub invariant-loop : goal.invariant-loop
invariant-loop l = l.schedule ≡ replicate l.counter main_step
