use Rattle.std.proofs.Common.{◌≡◌, length}
use Rattle.lz_calls.proofs.RanksLemmas.{AreNumbers}
use Rattle.lz_calls.proofs.ranks.rank_order.Given as goal

abbrev pub invariant-loop-function : goal.invariant-loop-function
invariant-loop-function l = (length l.order.items ≡ l.function) × AreNumbers l.order.items
