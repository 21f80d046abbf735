use Rattle.std.proofs.Common.{◌≡◌, length, map}
use Rattle.lz_tree.specs.ScopedTrees.{scoped_definition}
use Rattle.lz_slots.specs.Slots.{function_sites}
use Rattle.lz_slots.specs.Walking.{weight_of}
use Rattle.lz_slots.proofs.NestingLemmas.{AreNumbers}
use Rattle.lz_slots.proofs.program.body_sites.Given as goal

-- a number for each function, right for those so far
abbrev pub invariant-loop-function : goal.invariant-loop-function
invariant-loop-function l =
    (length l.numbers.items ≡ length l.functions)
    × AreNumbers l.order (function_sites (map scoped_definition l.functions) l.turns (weight_of l.weight l.costs)) l.function-index l.numbers.items
