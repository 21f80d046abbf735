use Rattle.std.proofs.Common.{refl, arith}
use Rattle.lz_flat.proofs.StraightRunLemmas.{statement_at, moves, stops_here, fails_here, holds_at_end}
use Rattle.lz_flat.proofs.straight.straight_run.Goals as goal

pub perform_guarded-requires-clause-within : goal.perform_guarded-requires-clause-within
perform_guarded-requires-clause-within c =
    let lt = rw c.items-list.ensures at c.loop-i-test.true in
    let at = rw c.items-list.ensures at c.index-list-i.is in
    rw c.loop-i.invariant.size (statement_at _ c.args.straight.now.list c.loop-i.i c.index-list-i.result c.requires.formed.statements lt at)

pub returns-in-Err-Blocked : goal.returns-in-Err-Blocked
returns-in-Err-Blocked c =
    let lt = rw c.items-list.ensures at c.loop-i-test.true in
    let at = rw c.items-list.ensures at c.index-list-i.is in
    let performs = rw (c.in-Err-Blocked.is, c.in-Err-Blocked.field-0-is) at c.perform_guarded.ensures.performs in
    ((λ is. absurd cc), λ failed. absurd (stops_here c.perform_guarded.new.memory c.index-list-i.result c.loop-i.invariant lt at performs failed))

pub returns-in-Err-Broke : goal.returns-in-Err-Broke
returns-in-Err-Broke c =
    let lt = rw c.items-list.ensures at c.loop-i-test.true in
    let at = rw c.items-list.ensures at c.index-list-i.is in
    let performs = rw (c.in-Err-Broke.is, c.in-Err-Broke.field-0-is) at c.perform_guarded.ensures.performs in
    ((λ is. fails_here c.perform_guarded.new.memory c.index-list-i.result c.in-Err-Broke.field-0-0 c.in-Err-Broke.field-0-1 c.loop-i.invariant lt at performs), λ failed. refl)

pub loop-i-preserved : goal.loop-i-preserved
loop-i-preserved c =
    let lt = rw c.items-list.ensures at c.loop-i-test.true in
    let at = rw c.items-list.ensures at c.index-list-i.is in
    let performs = rw c.in-Ok.is at c.perform_guarded.ensures.performs in
    moves c.index-list-i.result _ c.loop-i.invariant lt at performs c.perform_guarded.ensures.words (omega arith)

pub returns : goal.returns
returns c =
    ((λ is. absurd cc), λ failed. absurd (holds_at_end c.loop-i.invariant (let e = c.items-list.ensures in let n = c.loop-i-test.false in rw e at n) failed))
