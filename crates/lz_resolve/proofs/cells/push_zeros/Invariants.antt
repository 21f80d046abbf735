use Rattle.std.proofs.Common.{◌≡◌, ◌++◌, replicate}
use Rattle.lz_resolve.proofs.cells.push_zeros.Given as goal

abbrev pub invariant-loop-cell : goal.invariant-loop-cell
invariant-loop-cell l = l.cells ≡ l.initial.cells ++ replicate l._cell 0
