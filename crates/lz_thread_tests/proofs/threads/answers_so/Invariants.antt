use Rattle.lz_tree.specs.ScopedTrees.{scoped_program}
use Rattle.lz_machine.specs.Starts.{IsThreadOf}
use Rattle.lz_thread_tests.proofs.threads.answers_so.Given as goal

-- the thread stays one of the program
abbrev pub invariant-loop-item : goal.invariant-loop-item
invariant-loop-item l = IsThreadOf (scoped_program l.scoped) l.thread
