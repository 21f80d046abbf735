-- Inner: the one step that a program without a choice takes, again and again.
use Rattle.lz_model.specs.declared.schedule.Step.{Step}

-- a step of `main` that chooses nothing
abbrev pub main_step : Step
main_step = record { thread = 0; choice = 0 }
