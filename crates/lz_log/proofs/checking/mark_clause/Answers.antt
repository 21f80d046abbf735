use Rattle.std.proofs.Common.{sym, ◌∙◌}
use Rattle.lz_log.proofs.CheckingLemmas.{improper_sign, proper_turn, mark_turn, no_truth}
use Rattle.lz_log.proofs.checking.mark_clause.Goals as goal

pub returns-then-is_false-clause-improper : goal.returns-then-is_false-clause-improper
returns-then-is_false-clause-improper c f proper =
    improper_sign _ _ c.loop-lit.lit-index _ c.loop-lit-test.true
    (rw c.negated.ensures at ((c.is_false.ensures _ c.loop-lit.invariant.3).0 c.if-is_false.true)) proper

pub loop-lit-preserved : goal.loop-lit-preserved
loop-lit-preserved c = (
  c.mark.ensures.room ∙ c.loop-lit.invariant.0,
  λ are. c.mark.ensures.stamps (c.loop-lit.invariant.1 are),
  proper_turn _ _ _ _ c.loop-lit-test.true c.loop-lit.invariant.2 (rw c.variable.ensures at c.if-variable-variables.false)
      (λ within. no_truth (sym c.if-is_false.false ∙ (c.is_false.ensures _ c.loop-lit.invariant.3).1 (rw c.negated.ensures within))),
  mark_turn _ _ _ _ c.loop-lit-test.true (c.mark.ensures.marked _ c.loop-lit.invariant.3),
)
