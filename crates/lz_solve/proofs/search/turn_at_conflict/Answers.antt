use Rattle.std.proofs.Common.{length, ◌∙◌, ap, subst, arith}
use Rattle.lz_solve.specs.Search.{IsLearntInto}
use Rattle.lz_solve.proofs.SearchLemmas.{refuted, steps_more, spent, next_learnt}
use Rattle.lz_solve.proofs.search.turn_at_conflict.Goals as goal

pub returns-then-branch : goal.returns-then-branch
returns-then-branch c =
    let into = subst (IsLearntInto c.args.trail.now c.args.log.now c.learn_from.new.trail c.learn_from.new.log) c.if-branch.true c.in_ok-learn_from.ensures in
    refuted c.args.formula.now c.args.conflicts c.args.trail.now c.learn_from.new.trail c.args.log.now c.learn_from.new.log c.requires.search into

pub returns-then-items-conflicts : goal.returns-then-items-conflicts
returns-then-items-conflicts c =
    let into = subst (IsLearntInto c.args.trail.now c.args.log.now c.learn_from.new.trail c.learn_from.new.log) c.if-branch.false c.in_ok-learn_from.ensures in
    let left = c.requires.search.left in
    let same = ap length c.items-3.ensures in
    let all = c.if-items-conflicts.true in
    spent c.args.formula.now c.args.conflicts c.learn_from.new.log
    (steps_more c.args.formula.now c.args.conflicts c.args.trail.now c.learn_from.new.trail c.args.log.now c.learn_from.new.log c.requires.search into)
    (omega arith) (omega arith)

pub returns : goal.returns
returns c =
    let into = subst (IsLearntInto c.args.trail.now c.args.log.now c.learn_from.new.trail c.learn_from.new.log) c.if-branch.false c.in_ok-learn_from.ensures in
    let same = ap length c.items-3.ensures in
    next_learnt c.args.formula.now c.args.conflicts c.args.trail.now c.learn_from.new.trail c.args.log.now c.learn_from.new.log c.requires.search into
    (λ all. c.if-items-conflicts.false (same ∙ all))
