use Rattle.std.proofs.Common.{arith}
use Rattle.std.proofs.lemmas.Result.{err_from_is_err_and}
use Rattle.lz_flat.proofs.StepLemmas.{instruction_at, left_moves, left_halts, left_ends, left_stops}
use Rattle.lz_flat.proofs.step.run_on.Goals as goal

pub returns-then-next-clause-runs : goal.returns-then-next-clause-runs
returns-then-next-clause-runs c =
    let ends = left_stops c.index-code-at.result c.loop-at.invariant c.loop-at-test.true c.index-code-at.is c.if-next.true in
    (ends.led, ends.count)

pub perform_instr-requires-clause-within : goal.perform_instr-requires-clause-within
perform_instr-requires-clause-within c =
    let fact = instruction_at _ _ _ c.index-code-at.result c.requires.code c.loop-at-test.true c.index-code-at.is in
    rw c.loop-at.invariant.size fact.named

pub loop-at-preserved : goal.loop-at-preserved
loop-at-preserved c =
    left_moves c.index-code-at.result c.in_ok-over.over _ c.loop-at.invariant c.requires.code c.loop-at-test.true c.index-code-at.is c.if-next.false c.in_ok-over.ensures.performs c.in_ok-over.ensures.words (omega arith)

pub returns-in_err-over-clause-runs : goal.returns-in_err-over-clause-runs
returns-in_err-over-clause-runs c =
    let p = err_from_is_err_and c.from_residual.result c.from_residual.ensures.1 in
    rw (p.1, p.2) (left_halts _ c.index-code-at.result _ _ c.loop-at.invariant c.requires.code c.loop-at-test.true c.index-code-at.is c.if-next.false c.in_err-over.ensures.performs)

pub returns-clause-runs : goal.returns-clause-runs
returns-clause-runs c =
    let ends = left_ends c.loop-at.invariant (omega arith) in
    (ends.led, ends.count)
