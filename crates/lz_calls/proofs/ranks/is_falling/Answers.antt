use Rattle.std.proofs.Common.{◌∙◌, sym}
use Rattle.std.proofs.lemmas.Bool.{false≢true}
use Rattle.lz_calls.proofs.RanksLemmas.{falling_turn, not_falling}
use Rattle.lz_calls.proofs.ranks.is_falling.Goals as goal

pub loop-function-preserved : goal.loop-function-preserved
loop-function-preserved c =
    falling_turn c.args.graph.now c.args.ranks.now c.args.count c.loop-function.function c.rank_at.result c.row.result.now c.loop-function.invariant c.row.ensures c.rank_at.ensures (c.are_lower.ensures.0 c.if-not-are_lower.false)

pub returns-then-not-are_lower-clause-no : goal.returns-then-not-are_lower-clause-no
returns-then-not-are_lower-clause-no c = λ denied falling.
    not_falling c.args.graph.now c.args.ranks.now c.args.count c.loop-function.function c.rank_at.result c.row.result.now c.loop-function-test.true c.row.ensures c.rank_at.ensures (λ lower. false≢true (sym c.if-not-are_lower.true ∙ c.are_lower.ensures.1 lower)) falling
