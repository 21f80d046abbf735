use Rattle.std.proofs.Common.{arith}
use Rattle.std.proofs.lemmas.Result.{err_from_is_err_and}
use Rattle.lz_log.proofs.LacksLemmas.{lacks_more}
use Rattle.lz_log.proofs.LineLemmas.{no_step_space, no_step_hints, no_step_end}
use Rattle.lz_log.proofs.lines.step_line.Goals as goal

pub returns-in_default-behind_byte : goal.returns-in_default-behind_byte
returns-in_default-behind_byte c =
    no_step_space c.args.bytes.now c.in-Some.rest.now c.in_ok-clause.rest.now c.args.variables c.args.known c.in_ok-clause.clause c.requires c.in-Some.ensures c.in_ok-clause.ensures c.in_default-behind_byte.ensures

pub returns-in_err-hints : goal.returns-in_err-hints
returns-in_err-hints c =
    let p = err_from_is_err_and c.from_residual-in_err-hints.result c.from_residual-in_err-hints.ensures.1 in
    rw (p.1, p.2) (lacks_more _ _ c.in_err-hints.field-0.0
    (no_step_hints c.args.bytes.now c.in-Some.rest.now c.in_ok-clause.rest.now c.in-Some-behind_byte.rest.now c.args.variables c.args.known c.in_ok-clause.clause c.requires c.in-Some.ensures c.in_ok-clause.ensures c.in-Some-behind_byte.ensures)
    c.in_err-hints.ensures)

pub returns-in-None : goal.returns-in-None
returns-in-None c =
    no_step_end c.args.bytes.now c.in-Some.rest.now c.in_ok-clause.rest.now c.in-Some-behind_byte.rest.now c.in_ok-hints.rest.now c.args.variables c.args.known c.in_ok-clause.clause c.in_ok-hints.hints c.requires (let f = c.ranges.known.fits in omega arith)
    c.in-Some.ensures c.in_ok-clause.ensures c.in-Some-behind_byte.ensures c.in_ok-hints.ensures c.in-None.ensures
