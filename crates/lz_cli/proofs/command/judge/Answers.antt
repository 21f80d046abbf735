use Rattle.std.proofs.lemmas.Result.{IfOk-weaker}
use Rattle.lz_tree.specs.Trees.{translation_unit}
use Rattle.lz_cli.proofs.command.judge.Goals as goal

pub returns-in-Ok-clause-verdict : goal.returns-in-Ok-clause-verdict
returns-in-Ok-clause-verdict c =
    IfOk-weaker c.judge_admitted.result _ _
    (λ ending verdict. verdict c.args.bytes.now (translation_unit c.in-Ok.checked.program) (rw (c.scoped.ensures, c.order.ensures) c.in-Ok.ensures.admits))
    c.judge_admitted.ensures.verdict
