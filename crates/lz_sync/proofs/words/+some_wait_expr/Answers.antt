use Rattle.std.proofs.Common.{arith}
use Rattle.lz_sync.proofs.ExpandingLemmas.{some_given}
use Rattle.lz_sync.proofs.words.+some_wait_expr.Goals as goal

-- src/words.rt
pub returns : goal.returns
returns t c = some_given c.args.layout.now _ c.args.slots _ _ c.either_expr.result (grind (arith, c.if-slots-eq0.false, c.if-slots-eq1.false)) c.in_ok-before.ensures c.in_ok-here.ensures c.either_expr.ensures
