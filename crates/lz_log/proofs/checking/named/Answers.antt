use Rattle.std.proofs.Common.{ap, length}
use Rattle.lz_log.proofs.CheckingLemmas.{step_is_named, none_is_named}
use Rattle.lz_log.proofs.checking.named.Goals as goal

pub returns-then-place-earlier-clause-some : goal.returns-then-place-earlier-clause-some
returns-then-place-earlier-clause-some c =
    step_is_named c.args.formula.now _ _ _ _ _ (ap length c.items-clauses.ensures) c.if-hint-eq0.false c.if-place-clauses.false c.if-place-earlier.true c.items-then-place-earlier.ensures

pub returns-clause-none : goal.returns-clause-none
returns-clause-none c none clause =
    none_is_named c.args.formula.now _ _ _ clause (ap length c.items-clauses.ensures) c.if-hint-eq0.false c.if-place-clauses.false c.if-place-earlier.false
