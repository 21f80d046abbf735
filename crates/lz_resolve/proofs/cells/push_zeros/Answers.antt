use Rattle.lz_resolve.proofs.CellsLemmas.{zeros_more}
use Rattle.lz_resolve.proofs.cells.push_zeros.Goals as goal

pub loop-cell-preserved : goal.loop-cell-preserved
loop-cell-preserved c = zeros_more _ c.loop-cell.cells _ c.loop-cell._cell c.loop-cell.invariant c.in_ok-push.ensures.ok
