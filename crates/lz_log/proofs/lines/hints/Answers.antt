use Rattle.std.proofs.Common.{arith}
use Rattle.lz_log.proofs.LineLemmas.{no_hints}
use Rattle.lz_log.proofs.lines.hints.Goals as goal

pub returns-in-None : goal.returns-in-None
returns-in-None c = no_hints c.args.bytes.now c.args.known c.loop-rest.hints c.loop-rest.left.now (let f = c.ranges.known.fits in omega arith) c.loop-rest.invariant.front c.loop-rest.invariant.within c.in_default.ensures c.in-None.ensures
