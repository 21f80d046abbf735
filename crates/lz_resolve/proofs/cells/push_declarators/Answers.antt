use Rattle.lz_resolve.proofs.CellsLemmas.{declarators_more, declarators_all}
use Rattle.lz_resolve.proofs.cells.push_declarators.Goals as goal

pub loop-d-preserved : goal.loop-d-preserved
loop-d-preserved c =
    declarators_more _ c.loop-d.cells _ c.args.declarators.now c.args.declarators.now c.loop-d.d-index c.d-item.result c.loop-d.invariant c.loop-d-test.true c.d-item.is
    (rw c.elements.ensures at c.in_ok-push_first.ensures)

pub returns : goal.returns
returns c = declarators_all _ c.loop-d.cells c.args.declarators.now c.args.declarators.now c.loop-d.d-index c.loop-d.invariant c.loop-d-test.false
