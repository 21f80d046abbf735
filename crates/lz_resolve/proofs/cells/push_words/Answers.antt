use Rattle.lz_resolve.proofs.CellsLemmas.{values_more, values_all}
use Rattle.lz_resolve.proofs.cells.push_words.Goals as goal

pub loop-e-preserved : goal.loop-e-preserved
loop-e-preserved c =
    values_more _ c.loop-e.cells _ c.args.values.now c.args.values.now c.loop-e.e-index c.e-item.result c.loop-e.invariant c.loop-e-test.true c.e-item.is
    (rw c.word_in.ensures at c.in_ok-push.ensures.ok)

pub returns : goal.returns
returns c = values_all _ c.loop-e.cells c.args.values.now c.args.values.now c.loop-e.e-index c.loop-e.invariant c.loop-e-test.false
