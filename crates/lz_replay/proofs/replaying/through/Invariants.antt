use Rattle.std.proofs.Common.{take}
use Rattle.lz_tree.specs.ScopedTrees.{scoped_program}
use Rattle.lz_replay.specs.Replaying.{IsReplay}
use Rattle.lz_replay.proofs.replaying.through.Given as goal

-- the replay came through the steps so far
abbrev pub invariant-loop-i : goal.invariant-loop-i
invariant-loop-i l = IsReplay (scoped_program l.scoped) l.unwind (take l.i l.steps) l.store l.threads.items
