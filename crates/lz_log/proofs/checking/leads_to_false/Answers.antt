use Rattle.std.proofs.Common.{◌<◌, ◌+◌, ◌∷◌, length, arith, ◌∙◌}
use Rattle.lz_cnf.specs.Models.{negated}
use Rattle.lz_log.specs.Refutation.{known_clauses}
use Rattle.lz_log.proofs.CheckingLemmas.{hint_turn, hint_stops, hint_at_end, no_truth, some_items}
use Rattle.lz_log.proofs.checking.leads_to_false.Goals as goal

pub returns-then-not-propagates-clause-exact : goal.returns-then-not-propagates-clause-exact
returns-then-not-propagates-clause-exact c false_ mark =
    let now = c.loop-index.invariant.2 false_ mark in
    let lt : c.loop-index.index + 1 < length c.args.hints.now = omega arith in
    (no_truth, λ leads. absurd (hint_stops _ now.0 c.args.hints.now c.loop-index.index _ lt (c.propagates.ensures.stops now.0 now.1 c.if-not-propagates.true) (now.2.0 leads)))

pub loop-index-preserved : goal.loop-index-preserved
loop-index-preserved c =
    let lt : c.loop-index.index + 1 < length c.args.hints.now = omega arith in (
      c.propagates.ensures.room ∙ c.loop-index.invariant.0,
      λ are. c.propagates.ensures.stamps (c.loop-index.invariant.1 are),
      λ false_ mark.
          let now = c.loop-index.invariant.2 false_ mark in
          let goes = c.propagates.ensures.goes now.0 now.1 c.if-not-propagates.false in
          let turn = hint_turn (known_clauses c.args.formula.now c.args.earlier.now) now.0 _ c.args.hints.now c.loop-index.index _ lt goes.2 in
          (negated goes.0 ∷ now.0, goes.1, (λ leads. turn.0 (now.2.0 leads), λ leads. now.2.1 (turn.1 leads))),
    )

pub returns-clause-exact : goal.returns-clause-exact
returns-clause-exact c false_ mark =
    let now = c.loop-index.invariant.2 false_ mark in
    let end = hint_at_end c.args.hints.now c.loop-index.index c.loop-index-test.false c.loop-index.auto.index-end (some_items _ _ c.is_empty.ensures c.if-is_empty.false) in
    let last = c.is_refuted.ensures now.0 now.1 in
    (λ truth. now.2.1 (rw end (last.0 truth)), λ leads. last.1 (rw end at (now.2.0 leads)))
