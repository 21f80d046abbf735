use Rattle.std.proofs.Common.{sym}
use Rattle.lz_cli.proofs.EndingLemmas.{not_built}
use Rattle.lz_cli.proofs.command.judge_admitted.Goals as goal

pub returns-in-Some-clause-verdict : goal.returns-in-Some-clause-verdict
returns-in-Some-clause-verdict c = λ bytes tree kept. not_built kept (sym (rw c.in-Some.is at c.first_choice.ensures))
