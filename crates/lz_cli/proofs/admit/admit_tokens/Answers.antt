use Rattle.std.proofs.lemmas.Result.{IfOk-weaker}
use Rattle.lz_cli.proofs.EndingLemmas.{has_tree}
use Rattle.lz_cli.proofs.admit.admit_tokens.Goals as goal

pub returns-in-Ok-clause-admits : goal.returns-in-Ok-clause-admits
returns-in-Ok-clause-admits c =
    IfOk-weaker c.admit_program.result _ _ (λ checked admits bytes are. admits bytes (has_tree are c.in-Ok.ensures.found)) c.admit_program.ensures.admits
