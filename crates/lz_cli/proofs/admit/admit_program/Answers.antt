use Rattle.std.proofs.Common.{ap}
use Rattle.std.proofs.lemmas.Result.{IfOk-weaker}
use Rattle.lz_tree.specs.Trees.{translation_unit}
use Rattle.lz_cli.proofs.EndingLemmas.{accepted_as}
use Rattle.lz_cli.proofs.admit.admit_program.Goals as goal

pub returns-in-Ok-clause-admits : goal.returns-in-Ok-clause-admits
returns-in-Ok-clause-admits c =
    IfOk-weaker c.admit_checked.result _ _
    (λ checked admits bytes of. admits bytes (accepted_as (ap translation_unit c.in-Ok.ensures.program) of c.in-Ok.ensures.answer.0))
    c.admit_checked.ensures.admits
