use Rattle.std.proofs.Common.{ap, arith}
use Rattle.lz_ssa.specs.Construction.{Compared}
use Rattle.lz_ssa.proofs.LoopsLemmas.{compare_turn, compare_end}
use Rattle.lz_ssa.proofs.decode.compare.Goals as goal

pub loop-i-preserved : goal.loop-i-preserved
loop-i-preserved c =
    let drawn = rw (c.from.ensures, c.from-in-loop-i.ensures) at c.in_ok-add_test.ensures.drawn in
    let tests = rw (c.from.ensures, c.from-in-loop-i.ensures) at c.in_ok-add_test.ensures.tests in
    (compare_turn _ _ _ c.loop-i-test.true c.loop-i.invariant.0 drawn tests, omega arith, (let one = c.in_ok-add_test.ensures.one in omega (arith, one)))

pub returns-clause-drawn : goal.returns-clause-drawn
returns-clause-drawn c = ap (λ (x : Compared). x.drawn) (compare_end _ _ c.loop-i.i (omega arith) c.loop-i.invariant.0)

pub returns-clause-tests : goal.returns-clause-tests
returns-clause-tests c = ap (λ (x : Compared). x.tests) (compare_end _ _ c.loop-i.i (omega arith) c.loop-i.invariant.0)
