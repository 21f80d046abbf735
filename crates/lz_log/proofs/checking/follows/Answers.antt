use Rattle.lz_log.proofs.CheckingLemmas.{no_truth}
use Rattle.lz_log.proofs.checking.follows.Goals as goal

pub returns-then-not-mark_clause-clause-exact : goal.returns-then-not-mark_clause-clause-exact
returns-then-not-mark_clause-clause-exact c =
    let improper = rw c.items.ensures at (c.mark_clause.ensures.improper c.if-not-mark_clause.true) in
    (no_truth, λ is. absurd (improper (record { one_sign = is.one_sign; variables = is.variables })))

pub returns-clause-exact : goal.returns-clause-exact
returns-clause-exact c =
    let proper = rw c.items.ensures at (c.mark_clause.ensures.proper c.if-not-mark_clause.false) in
    let exact = rw c.items-2.ensures at (c.leads_to_false.ensures.exact c.args.step.now.clause (proper.1)) in (
      λ truth. record { one_sign = proper.0.one_sign; variables = proper.0.variables; hints = (exact.0 truth).leads },
      λ is. exact.1 (record { leads = is.hints }),
    )
