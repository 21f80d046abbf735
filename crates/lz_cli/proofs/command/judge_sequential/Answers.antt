use Rattle.std.proofs.Common.{◌≡◌, true, ap, arith}
use Rattle.lz_cnf.specs.declared.clause.Cnf.{Cnf}
use Rattle.lz_cli.proofs.EndingLemmas.{success, failure, failure_printable}
use Rattle.lz_cli.proofs.command.judge_sequential.Goals as goal

pub decide-requires-clause-program : goal.decide-requires-clause-program
decide-requires-clause-program c =
    let fits : c.program_fits.result ≡ true = cc in
    record { calls = c.requires.order; fit = c.program_fits.ensures.fits fits }

pub returns-in_ok-formula-in-Holds-clause-verdict : goal.returns-in_ok-formula-in-Holds-clause-verdict
returns-in_ok-formula-in-Holds-clause-verdict c = λ bytes tree kept.
    let holds = rw c.in-Holds.is at c.in_ok-decide.ensures in
    let made = c.in_ok-formula-in-Holds.ensures in
    success kept c.requires.no_choice holds made.formula made.refutes made.no_model (ap (λ (f : Cnf). f.variables) made.exact.0) made.one_step

pub returns-in-Broken-clause-verdict : goal.returns-in-Broken-clause-verdict
returns-in-Broken-clause-verdict c = λ bytes tree kept. failure kept c.requires.no_choice (rw c.in-Broken.is at c.in_ok-decide.ensures) (omega (arith, c.decide.type_inv))

pub returns-in-Broken-clause-printable : goal.returns-in-Broken-clause-printable
returns-in-Broken-clause-printable c = failure_printable (rw c.in-Broken.is at c.in_ok-decide.ensures)
