use Rattle.std.proofs.lemmas.List.{take_all}
use Rattle.lz_log.proofs.StandingLemmas.{stands_turn}
use Rattle.lz_log.proofs.marks.Marks.standing.Goals as goal

pub loop-lit-preserved : goal.loop-lit-preserved
loop-lit-preserved c false_ mark =
    stands_turn false_ c.args.clause.now _ c.loop-lit.lit-index _ c.loop-lit-test.true
    (c.with_one_more-standing.ensures false_ _ mark (c.loop-lit.invariant false_ mark))

pub returns : goal.returns
returns c false_ mark = rw (take_all c.loop-lit.lit-index c.args.clause.now c.loop-lit-test.false) at (c.loop-lit.invariant false_ mark)
