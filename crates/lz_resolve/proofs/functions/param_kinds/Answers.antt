use Rattle.lz_resolve.proofs.FunctionsLemmas.{kinds_more, kinds_all}
use Rattle.lz_resolve.proofs.functions.param_kinds.Goals as goal

pub loop-param-preserved : goal.loop-param-preserved
loop-param-preserved c =
    kinds_more _ c.loop-param.kinds _ c.args.params.now c.loop-param.param-index _ c.loop-param.invariant c.loop-param-test.true
    (rw (c.kind.ensures, c.value_type.ensures) at c.in_ok-push.ensures.ok)

pub returns : goal.returns
returns c = kinds_all _ c.loop-param.kinds c.args.params.now c.loop-param.param-index c.loop-param.invariant c.loop-param-test.false
