use Rattle.std.proofs.Common.{map}
use Rattle.lz_tree.specs.ScopedTrees.{scoped_definition}
use Rattle.lz_calls.specs.Facts.{AreStarts}
use Rattle.lz_calls.proofs.finding.starts_of.Given as goal

abbrev pub invariant-loop-number : goal.invariant-loop-number
invariant-loop-number l = AreStarts (map scoped_definition l.functions) l.number l.starts.items
