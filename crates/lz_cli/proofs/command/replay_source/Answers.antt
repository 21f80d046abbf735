use Rattle.std.proofs.lemmas.Result.{IfOk-weaker}
use Rattle.lz_tree.specs.Trees.{translation_unit}
use Rattle.lz_cli.proofs.command.replay_source.Goals as goal

pub returns-in-Ok-clause-lawful : goal.returns-in-Ok-clause-lawful
returns-in-Ok-clause-lawful g c =
    IfOk-weaker c.replay_program.result _ _
    (λ ending lawful words source. lawful words c.args.bytes.now (translation_unit c.in-Ok.checked.program) source (rw (c.scoped.ensures, c.order.ensures) c.in-Ok.ensures.admits))
    c.replay_program.ensures.lawful

pub returns-in-Err-clause-lawful : goal.returns-in-Err-clause-lawful
returns-in-Err-clause-lawful g c =
    IfOk-weaker c.refuse.result _ _
    (λ ending lawful words source. lawful _ c.args.unwind c.args.schedule.now c.args.bytes.now source c.in-Err.ensures.refused)
    c.refuse.ensures.lawful
