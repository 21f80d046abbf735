use Rattle.std.proofs.Common.{◌≡◌, length}
use Rattle.lz_calls.proofs.RanksLemmas.{AreCounts}
use Rattle.lz_calls.proofs.ranks.ranks_by_reach.Given as goal

abbrev pub invariant-loop-function : goal.invariant-loop-function
invariant-loop-function l = (length l.ranks.items ≡ l.function) × AreCounts l.graph l.ranks.items
