use Rattle.std.proofs.Common.{◌∙◌, sym}
use Rattle.lz_log.proofs.CheckingLemmas.{log_below, steps_turn, first_bad, none_refutes, some_refutes, no_truth}
use Rattle.lz_log.proofs.checking.check_steps.Goals as goal

pub follows-requires-clause-known : goal.follows-requires-clause-known
follows-requires-clause-known c = log_below c.args.formula.now _ c.requires.formula c.loop-index.invariant.2

pub returns-then-not-follows-clause-exact : goal.returns-then-not-follows-clause-exact
returns-then-not-follows-clause-exact c =
    first_bad c.args.formula.now _ c.loop-index.index _ c.loop-index-test.true c.index-steps-index.is c.loop-index.invariant.2
    (λ own. no_truth (sym c.if-not-follows.true ∙ c.follows.ensures.exact.1 own))

pub loop-index-preserved : goal.loop-index-preserved
loop-index-preserved c = (
  c.follows.ensures.room ∙ c.loop-index.invariant.0,
  c.follows.ensures.stamps,
  steps_turn c.args.formula.now c.args.steps.now c.loop-index.index _ c.loop-index-test.true c.index-steps-index.is c.loop-index.invariant.2 (c.follows.ensures.exact.0 c.if-not-follows.false),
)

pub returns-clause-exact : goal.returns-clause-exact
returns-clause-exact c =
    none_refutes c.args.formula.now _ c.loop-index.index c.loop-index.auto.index-end c.loop-index-test.false c.loop-index.invariant.2
    (λ some. no_truth (sym c.if-has_empty.false ∙ c.has_empty.ensures.1 some))

pub returns-then-has_empty-clause-exact : goal.returns-then-has_empty-clause-exact
returns-then-has_empty-clause-exact c = some_refutes c.args.formula.now _ c.loop-index.index c.loop-index-test.false c.loop-index.invariant.2 (c.has_empty.ensures.0 c.if-has_empty.true)
