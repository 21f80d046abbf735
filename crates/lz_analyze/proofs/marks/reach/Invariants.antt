use Rattle.std.proofs.Common.{◌+◌, ◌-◌, length}
use Rattle.lz_analyze.specs.Marked.{AreSame}
use Rattle.lz_analyze.proofs.marks.reach.Given as goal

abbrev pub invariant-loop-table : goal.invariant-loop-table
invariant-loop-table l = AreSame l.initial.table.items l.table.items

abbrev pub decreases-loop-table : goal.decreases-loop-table
decreases-loop-table l = l.at + 1 - length l.table.items
