use Rattle.lz_log.proofs.LineLemmas.{no_header_count, no_header_end}
use Rattle.lz_log.proofs.lines.header.Goals as goal

pub returns-in_err-count : goal.returns-in_err-count
returns-in_err-count c = rw c.from_residual-in_err-count.ensures (no_header_count c.args.bytes.now c.in_ok-rest.rest.now c.in_ok-variables.rest.now c.in_ok-variables.variables c.in_ok-rest.ensures c.in_ok-variables.ensures c.in_err-count.ensures)

pub returns-in_err-rest-2 : goal.returns-in_err-rest-2
returns-in_err-rest-2 c = rw c.from_residual-in_err-rest-2.ensures (no_header_end c.args.bytes.now c.in_ok-rest.rest.now c.in_ok-variables.rest.now c.in_ok-count.rest.now c.in_ok-variables.variables c.in_ok-count.count c.in_ok-rest.ensures c.in_ok-variables.ensures c.in_ok-count.ensures c.in_err-rest-2.ensures)
