-- Inner: what the decision on a program without a choice says of its runs.
use Rattle.std.specs.Prelude.{◌≡◌, ℕ}
use Rattle.lz_tree.specs.ScopedTrees.{ScopedProgram}
use Rattle.lz_model.specs.Rounds.{rounds_of, threads_of}
use Rattle.lz_model.specs.Programs.{IsViolatedWithin}
use Rattle.lz_replay.specs.declared.deciding.Decided.{Decided}
use Rattle.lz_replay.specs.declared.deciding.Decided.TheVariants.{Holds, Broken}
use Rattle.lz_replay.specs.Replays.{IsBrokenAt}

-- No run breaks a check, in however many rounds; or a broken run follows this schedule, which takes one round.
abbrev pub Decides : ScopedProgram → ℕ → Decided → Type 0
Decides p n Holds = (k : ℕ) → IsViolatedWithin p n k → ⊥
Decides p n (Broken schedule kind line) = IsBrokenAt p n schedule kind line × (rounds_of (threads_of schedule) ≡ 1)
