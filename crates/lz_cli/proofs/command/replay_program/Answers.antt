use Rattle.std.proofs.lemmas.Result.{IfOk-weaker}
use Rattle.lz_cli.proofs.EndingLemmas.{run_lawful}
use Rattle.lz_cli.proofs.command.replay_program.Goals as goal

pub returns-in-Ok-clause-lawful : goal.returns-in-Ok-clause-lawful
returns-in-Ok-clause-lawful g c =
    let held = rw (c.text.ensures) at c.in-Ok.ensures.holds in
    IfOk-weaker c.follow.result _ _
    (λ ending lawful words bytes tree source kept. run_lawful ending source kept (rw c.items.ensures held) (rw c.items.ensures c.in-Ok.ensures.within) (lawful _ bytes))
    c.follow.ensures.lawful
