use Rattle.std.proofs.Common.{arith}
use Rattle.lz_calls.proofs.ReachingLemmas.{marks_set, read_mark}
use Rattle.lz_calls.proofs.reaching.mark.Goals as goal

pub returns-in_ok-push : goal.returns-in_ok-push
returns-in_ok-push c =
    rw c.in_ok-push.ensures.items
    (marks_set c.args.marks.now.items c.args.work.now.items c.args.function (omega (arith, c.if-function-len.false, c.len.ensures)) (read_mark c.args.marks.now.items c.args.function c.index.result.now _ (omega (arith, c.if-function-len.false, c.len.ensures)) c.index.ensures c.if-not-index.true))
