use Rattle.std.proofs.Common.{refl, ◌∙◌, sym}
use Rattle.lz_replay.proofs.ReadingLemmas.{adds_step, reads_nothing}
use Rattle.lz_replay.proofs.read.add_line.Goals as goal

pub returns-in_ok-push-in-Some-clause-ok : goal.returns-in_ok-push-in-Some-clause-ok
returns-in_ok-push-in-Some-clause-ok c =
    adds_step c.args.line.now c.args.schedule.now c.push.new.self c.in-Some.step (sym c.in-Some.is ∙ c.step.ensures) c.in_ok-push-in-Some.ensures.ok

pub returns-else-is_passed_over-clause-err : goal.returns-else-is_passed_over-clause-err
returns-else-is_passed_over-clause-err c =
    (refl, reads_nothing c.args.line.now (sym c.is_passed_over.ensures ∙ c.if-is_passed_over.false) (sym c.in-None.is ∙ c.step.ensures))
