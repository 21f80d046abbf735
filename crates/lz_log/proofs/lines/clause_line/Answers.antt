use Rattle.std.proofs.lemmas.Result.{err_from_is_err_and}
use Rattle.lz_log.proofs.LacksLemmas.{lacks_more}
use Rattle.lz_log.proofs.LineLemmas.{no_clause, no_clause_end}
use Rattle.lz_log.proofs.lines.clause_line.Goals as goal

pub returns-in_err-clause : goal.returns-in_err-clause
returns-in_err-clause c =
    let p = err_from_is_err_and c.from_residual.result c.from_residual.ensures.1 in
    rw (p.1, p.2) (lacks_more _ _ c.in_err-clause.field-0.0 (no_clause c.args.bytes.now c.args.variables) c.in_err-clause.ensures)

pub returns-in-None : goal.returns-in-None
returns-in-None c = no_clause_end c.args.bytes.now c.args.variables c.in_ok-clause.clause c.in_ok-clause.rest.now c.requires c.in_ok-clause.ensures c.in-None.ensures
