use Rattle.lz_cli.proofs.RefutationLemmas.{both_refuted}
use Rattle.lz_cli.proofs.refutation.refutation.Goals as goal

pub returns-clause-refutes : goal.returns-clause-refutes
returns-clause-refutes c =
    rw (c.in_ok-push-5.ensures.ok, c.in_ok-push-4.ensures.ok, c.in_ok-push-3.ensures.ok, c.in_ok-push-2.ensures.ok, c.in_ok-push.ensures.ok, c.in_ok-unit_clause.ensures, c.in_ok-unit_clause-2.ensures, c.new-log.ensures, c.new-hints.ensures, c.new-clauses.ensures, c.new.ensures)
    both_refuted
