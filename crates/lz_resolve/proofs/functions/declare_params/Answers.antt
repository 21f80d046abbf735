use Rattle.lz_resolve.proofs.FunctionsLemmas.{params_more, params_all}
use Rattle.lz_resolve.proofs.functions.declare_params.Goals as goal

pub loop-param-preserved : goal.loop-param-preserved
loop-param-preserved c =
    params_more _ c.loop-param.place c.declare_param.new.place c.args.params.now c.args.params.now c.loop-param.param-index _ c.loop-param.invariant c.loop-param-test.true
    c.in_ok-declare_param.ensures

pub returns : goal.returns
returns c = params_all _ c.loop-param.place c.args.params.now c.args.params.now c.loop-param.param-index c.loop-param.invariant c.loop-param-test.false
