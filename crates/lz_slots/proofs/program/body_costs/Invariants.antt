use Rattle.std.proofs.Common.{◌≡◌, length, map}
use Rattle.lz_tree.specs.ScopedTrees.{scoped_definition}
use Rattle.lz_slots.specs.Costs.{body_cost}
use Rattle.lz_slots.proofs.NestingLemmas.{AreNumbers}
use Rattle.lz_slots.proofs.program.body_costs.Given as goal

-- a number for each function, right for those so far
abbrev pub invariant-loop-function : goal.invariant-loop-function
invariant-loop-function l =
    (length l.numbers.items ≡ length l.functions)
    × AreNumbers l.order (body_cost (map scoped_definition l.functions) l.turns l.threads) l.function-index l.numbers.items
