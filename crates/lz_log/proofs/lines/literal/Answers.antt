use Rattle.lz_log.proofs.LineLemmas.{no_negative}
use Rattle.lz_log.proofs.lines.literal.Goals as goal

pub returns-in_err-number-in-Some : goal.returns-in_err-number-in-Some
returns-in_err-number-in-Some c = rw c.from_residual.ensures (no_negative c.args.bytes.now c.in-Some.behind.now c.args.variables c.requires c.in-Some.ensures c.in_err-number-in-Some.ensures)
