use Rattle.lz_types.proofs.ExternalLemmas.{params_more, params_end}
use Rattle.lz_types.proofs.params.walk_params.Goals as goal

pub loop-p-preserved : goal.loop-p-preserved
loop-p-preserved c =
    params_more c.args.file.now c.args.start _ c.loop-p.place c.walk_param.new.place c.args.params.now c.args.params.now
    c.loop-p.p-index _ _ c.loop-p.faults.items c.walk_param.new.faults.items c.loop-p.invariant c.loop-p-test.true
    c.in_ok-walk_param.ensures.place c.in_ok-walk_param.ensures.faults

pub returns-clause-place : goal.returns-clause-place
returns-clause-place c = (params_end c.args.file.now c.args.start _ c.loop-p.place _ c.args.params.now c.loop-p.p-index _ c.loop-p.faults.items c.loop-p.invariant c.loop-p-test.false).0

pub returns-clause-faults : goal.returns-clause-faults
returns-clause-faults c = (params_end c.args.file.now c.args.start _ c.loop-p.place _ c.args.params.now c.loop-p.p-index _ c.loop-p.faults.items c.loop-p.invariant c.loop-p-test.false).1
