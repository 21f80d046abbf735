use Rattle.std.proofs.Common.{sym, ◌∙◌}
use Rattle.lz_scopes.proofs.ArgumentsLemmas.{constant_more}
use Rattle.lz_types.proofs.declarations.are_constant.Goals as goal

pub loop-e-preserved : goal.loop-e-preserved
loop-e-preserved c =
    c.loop-e.invariant
    ∙ constant_more c.args.values.now c.loop-e.e-index c.e-item.result c.loop-e-test.true c.e-item.is (rw (sym c.is_changing.ensures) c.if-is_changing.false)
