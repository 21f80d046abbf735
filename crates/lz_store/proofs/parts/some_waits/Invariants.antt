use Rattle.std.proofs.Common.{◌≡◌, drop}
use Rattle.std.specs.List.{list_any}
use Rattle.lz_model.specs.Store.{waits_on}
use Rattle.lz_store.proofs.parts.some_waits.Given as goal

-- some thread waits exactly where one from here on does
abbrev pub invariant-loop-thread : goal.invariant-loop-thread
invariant-loop-thread l = list_any (waits_on l.cond) (drop l.thread-index l.threads) ≡ list_any (waits_on l.cond) l.threads
