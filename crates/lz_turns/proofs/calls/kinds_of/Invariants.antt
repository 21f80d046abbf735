use Rattle.std.proofs.Common.{◌≡◌, map, take}
use Rattle.lz_tree.specs.ScopedTrees.{scoped_expression}
use Rattle.lz_model.specs.CodeTraces.{kind_of}
use Rattle.lz_turns.proofs.calls.kinds_of.Given as goal

-- the kinds of the arguments so far
abbrev pub invariant-loop-arg : goal.invariant-loop-arg
invariant-loop-arg l = l.kinds.items ≡ map (λ x. kind_of (scoped_expression x)) (take l.arg-index l.args)
