use Rattle.std.proofs.lemmas.Result.{IfOk-weaker}
use Rattle.lz_cli.proofs.EndingLemmas.{verdict_lawful}
use Rattle.lz_cli.proofs.command.conclude_file.Goals as goal

pub returns-in-Ok-clause-lawful : goal.returns-in-Ok-clause-lawful
returns-in-Ok-clause-lawful g c =
    let held = rw (c.text.ensures) at c.in-Ok.ensures.holds in
    IfOk-weaker c.judge.result _ _
    (λ ending verdict words named. verdict_lawful ending
    (record { name = c.args.name.now; named = named; held = rw c.items.ensures held; within_limit = rw c.items.ensures c.in-Ok.ensures.within })
    verdict)
    c.judge.ensures.verdict
