use Rattle.lz_tree.specs.ScopedTrees.{scoped_program}
use Rattle.lz_machine.specs.Weights.{weight}
use Rattle.lz_machine.specs.Held.{running_of}
use Rattle.lz_machine.proofs.AdvancesLemmas.{SoFar}
use Rattle.lz_machine.proofs.turn.run.Given as goal

-- the thread came so far by turns
abbrev pub invariant-loop-turned : goal.invariant-loop-turned
invariant-loop-turned l = SoFar (scoped_program l.program) l.bound (running_of l.fn.running) (running_of l.running)

abbrev pub decreases-loop-turned : goal.decreases-loop-turned
decreases-loop-turned l = weight (scoped_program l.program) l.order l.bound (running_of l.running).frames
