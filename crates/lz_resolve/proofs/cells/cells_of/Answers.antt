use Rattle.lz_resolve.proofs.CellsLemmas.{externals_more, externals_all}
use Rattle.lz_resolve.proofs.cells.cells_of.Goals as goal

pub loop-external-preserved : goal.loop-external-preserved
loop-external-preserved c =
    externals_more _ c.loop-external.cells _ c.args.externals.now c.args.externals.now c.loop-external.external-index c.external-item.result c.loop-external.invariant c.loop-external-test.true c.external-item.is
    c.in_ok-push_external.ensures

pub returns : goal.returns
returns c = externals_all _ c.loop-external.cells c.args.externals.now c.args.externals.now c.loop-external.external-index c.loop-external.invariant c.loop-external-test.false
