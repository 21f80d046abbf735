use Rattle.lz_log.proofs.LineLemmas.{no_literals}
use Rattle.lz_log.proofs.lines.literals.Goals as goal

pub returns-in-None : goal.returns-in-None
returns-in-None c = no_literals c.args.bytes.now c.args.variables c.loop-rest.clause c.loop-rest.left.now c.requires c.loop-rest.invariant.front c.loop-rest.invariant.within c.in_default.ensures c.in-None.ensures
