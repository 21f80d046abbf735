use Rattle.std.proofs.Common.{ap, arith}
use Rattle.lz_ssa.specs.Construction.{With}
use Rattle.lz_ssa.proofs.LoopsLemmas.{read_turns, read_ends}
use Rattle.lz_ssa.proofs.expression.read.Goals as goal

pub loop-place-preserved : goal.loop-place-preserved
loop-place-preserved c =
    (read_turns _ _ _ c.loop-place-test.true c.loop-place.invariant.0 c.in_ok-so_far-2.ensures.drawn c.in_ok-so_far-2.ensures.node, omega arith)

pub returns-clause-drawn : goal.returns-clause-drawn
returns-clause-drawn c = ap (λ (x : With). x.drawn) (read_ends _ _ c.loop-place.place (omega arith) c.loop-place.invariant.0)

pub returns-clause-node : goal.returns-clause-node
returns-clause-node c = ap (λ (x : With). x.node) (read_ends _ _ c.loop-place.place (omega arith) c.loop-place.invariant.0)
