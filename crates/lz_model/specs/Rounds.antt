-- Trusted: rounds, which under a round-robin schedule begin where the thread number goes down.
use Rattle.std.specs.Prelude.{ℕ, ◌+◌, List, map}
use Rattle.lz_base.specs.Descents.{descents}
use Rattle.lz_model.specs.declared.schedule.Step.{Step}

-- the rounds of a list of thread numbers
abbrev pub rounds_of : List ℕ → ℕ
rounds_of threads = descents threads + 1

-- the threads of a schedule
abbrev pub threads_of : List Step → List ℕ
threads_of schedule = map (λ step. step.thread) schedule
