use Rattle.std.proofs.Common.{◌≡◌, ◌++◌, map, take, drop}
use Rattle.lz_model.specs.Store.{woken_from}
use Rattle.lz_store.proofs.parts.wake_all.Given as goal

-- the threads so far are woken, and the others as before
abbrev pub invariant-loop-i : goal.invariant-loop-i
invariant-loop-i l = l.threads ≡ map (woken_from l.cond) (take l.i l.initial.threads) ++ drop l.i l.initial.threads
