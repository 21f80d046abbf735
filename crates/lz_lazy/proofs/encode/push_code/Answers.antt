use Rattle.std.proofs.Common.{arith}
use Rattle.lz_lazy.proofs.CodingLemmas.{one_turn, no_more}
use Rattle.lz_lazy.proofs.encode.push_code.Goals as goal

pub loop-l-preserved : goal.loop-l-preserved
loop-l-preserved c =
    one_turn _ _ _ _ c.loop-l-test.true c.index-code-l.is c.loop-l.invariant c.in_ok-push_three.ensures

pub returns : goal.returns
returns c = no_more _ _ c.args.code.now (omega arith) c.loop-l.invariant
