use Rattle.std.proofs.Common.{rules, slice_index, arith}
use Rattle.std.proofs.lemmas.List.Sorted.{IsNonDecreasingBy-from_sort_by_key}
use Rattle.lz_calls.proofs.RanksLemmas.{order_made}
use Rattle.lz_calls.proofs.ranks.rank_order.Goals as goal

pub returns : goal.returns
returns c =
    let sorted = IsNonDecreasingBy-from_sort_by_key (slice_index c.args.ranks.now) _ c.in_ok-sort_by_key.ensures.sorted (λ a r q k. search rules) in
    order_made c.loop-function.order.items c.sort_by_key.new.self.items c.args.ranks.now c.args.count (omega arith) c.loop-function.invariant.1 c.in_ok-sort_by_key.ensures.permutation sorted
