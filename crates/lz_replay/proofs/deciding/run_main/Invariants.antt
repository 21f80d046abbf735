use Rattle.std.proofs.Common.{replicate}
use Rattle.lz_tree.specs.ScopedTrees.{scoped_program}
use Rattle.lz_choices.specs.MainAlone.{main_step}
use Rattle.lz_replay.specs.Replaying.{IsReplay}
use Rattle.lz_replay.proofs.deciding.run_main.Given as goal

-- `main` went so many steps
abbrev pub invariant-loop-steps : goal.invariant-loop-steps
invariant-loop-steps l = IsReplay (scoped_program l.scoped) l.unwind (replicate l.steps main_step) l.store l.threads.items
