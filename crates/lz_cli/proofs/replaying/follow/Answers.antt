use Rattle.std.proofs.lemmas.Result.{IfOk-weaker}
use Rattle.lz_cli.proofs.replaying.follow.Goals as goal

pub returns-in-Ok-clause-lawful : goal.returns-in-Ok-clause-lawful
returns-in-Ok-clause-lawful c =
    IfOk-weaker c.follow_steps.result _ _ (λ ending lawful call bytes by_ meaning. lawful call bytes c.args.text.now by_ c.in-Ok.ensures.text meaning) c.follow_steps.ensures.lawful
