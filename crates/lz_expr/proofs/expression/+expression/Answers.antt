use Rattle.std.proofs.Common.{◌≡◌, ◌<◌, ◌+◌, ◌-◌, ℕ, suc, length, map, refl, sym, ◌∙◌, ap, arith, inl, inr}
use Rattle.std.proofs.lemmas.List.{map-append}
use Rattle.std.proofs.lemmas.Result.{err_from_is_err_and}
use Rattle.lz_tree.specs.declared.token.Punct.TheVariants as marks
use Rattle.lz_tree.specs.Languages.{is_mark}
use Rattle.lz_tree.specs.Trees.{expression, binary}
use Rattle.lz_tree.specs.Height.{expression_height}
use Rattle.lz_expr.specs.Grammar.{classes, expr, mark, next_argument, operator_shown, shown_at}
use Rattle.lz_expr.proofs.LoopsLemmas.{until_more, until_fails, until_ends, fails, highest_more}
use Rattle.lz_expr.proofs.ClimbingLemmas.{taken, not_taken, over}
use Rattle.lz_expr.proofs.expression.+expression.Goals as goal
use Rattle.lz_expr.proofs.expression.+expression.Goals.{more_arguments-else-turns-test, more_arguments-then-turns-test+then-begins, operations-else-row-test, operations-then-row-test+in_default}

pub classes-returns-then-class-eq-CHOOSE-clause-read : goal.classes-returns-then-class-eq-CHOOSE-clause-read
unfolding classes
classes-returns-then-class-eq-CHOOSE-clause-read t c = rw c.if-class-eq-CHOOSE.true c.conditional.ensures.read

pub classes-returns-then-class-eq-ASSIGN-clause-read : goal.classes-returns-then-class-eq-ASSIGN-clause-read
unfolding classes
classes-returns-then-class-eq-ASSIGN-clause-read t c = rw c.if-class-eq-ASSIGN.true c.assignment.ensures.read

pub more_arguments-returns-in_err-arg-clause-read : goal.more_arguments-returns-in_err-arg-clause-read
more_arguments-returns-in_err-arg-clause-read t c =
    let p = err_from_is_err_and c.from_residual-in_err-arg.result c.from_residual-in_err-arg.ensures.1 in
    rw (p.1, p.2) (fails c.in_err-arg.field-0.0 (next_argument (expr c.args.below) c.args.below c.turns.rest.now) _ c.in_err-arg.ensures.read (λ n e.
    until_fails (is_mark marks.CloseParen) (mark marks.CloseParen) (next_argument (expr c.args.below) c.args.below) _ (length c.args.tokens.now) c.turns._turn (map expression c.turns.args.items) n c.turns.rest.now c.turns.invariant.whole c.turns-test.true
    (sym c.begins.ensures ∙ c.if-begins.false) e))

pub more_arguments-turns-preserved : goal.more_arguments-turns-preserved
more_arguments-turns-preserved t c = record {
  tall = c.max-high.ensures ∙ (let a = c.turns.invariant.tall in let b = c.in_ok-arg.ensures.high.0 in
      rw (c.in_ok-push-2.ensures.items, map-append, highest_more, a, b) refl);
  low = (let a = c.turns.invariant.low in let b = c.in_ok-arg.ensures.high.1 in let d = c.max-high.ensures in omega arith);
  whole = rw (c.in_ok-push-2.ensures.items, map-append)
      (until_more (is_mark marks.CloseParen) (mark marks.CloseParen) (next_argument (expr c.args.below) c.args.below) _ (length c.args.tokens.now) c.turns._turn (map expression c.turns.args.items) (expression c.in_ok-arg.arg)
      c.turns.rest.now c.in_ok-arg.after.now c.turns.invariant.whole c.turns-test.true (sym c.begins.ensures ∙ c.if-begins.false) c.in_ok-arg.ensures.read);
}

pub more_arguments-returns-in_err-rest-clause-read : goal.more_arguments-returns-in_err-rest-clause-read
more_arguments-returns-in_err-rest-clause-read t c =
    let e = until_ends (is_mark marks.CloseParen) (mark marks.CloseParen) (next_argument (expr c.args.below) c.args.below) _ (length c.args.tokens.now) c.turns._turn (map expression c.turns.args.items) c.turns.rest.now c.turns.invariant.whole
    (elim c.turns-test.branch [ more_arguments-else-turns-test w ↦ inl (omega arith) | more_arguments-then-turns-test+then-begins w ↦ inr (sym w.begins.ensures ∙ w.if-begins.true) ]) in
    let p = err_from_is_err_and c.from_residual-in_err-rest.result c.from_residual-in_err-rest.ensures.1 in
    rw (p.1, p.2) (fails c.in_err-rest.field-0.0 (mark marks.CloseParen c.turns.rest.now) _ c.in_err-rest.ensures (λ n h. rw (e, h) refl))

pub more_arguments-returns-clause-read : goal.more_arguments-returns-clause-read
more_arguments-returns-clause-read t c =
    let e = until_ends (is_mark marks.CloseParen) (mark marks.CloseParen) (next_argument (expr c.args.below) c.args.below) _ (length c.args.tokens.now) c.turns._turn (map expression c.turns.args.items) c.turns.rest.now c.turns.invariant.whole
    (elim c.turns-test.branch [ more_arguments-else-turns-test w ↦ inl (omega arith) | more_arguments-then-turns-test+then-begins w ↦ inr (sym w.begins.ensures ∙ w.if-begins.true) ]) in
    rw (e, c.in_ok-rest.ensures) refl

pub operations-row-init : goal.operations-row-init
operations-row-init t c = record {
  tall = c.in_ok-left.ensures.high.0;
  low = c.in_ok-left.ensures.high.1;
  rows = (suc (suc c.args.below), omega arith, rw (c.in_ok-left.ensures.read, c.line_at-line.ensures) refl);
}

pub operations-returns-in_err-right-clause-read : goal.operations-returns-in_err-right-clause-read
operations-returns-in_err-right-clause-read t c =
    let p = err_from_is_err_and c.from_residual-in_err-right.result c.from_residual-in_err-right.ensures.1 in
    let low : expression_height (expression c.row.left) < suc c.args.below = (let a = c.row.invariant.tall in let b = c.row-test.true in omega arith) in
    let enough : suc c.args.below < c.row.invariant.rows.0 + expression_height (expression c.row.left) = (let a = c.row.invariant.tall in let b = c.row.invariant.rows.1 in omega arith) in
    let is : c.args.class ≡ suc (c.args.class - 1) = omega arith in
    rw (p.1, p.2) (fails c.in_err-right.field-0.0 (expr c.args.below (c.args.class - 1) c.in-Some.after.now) _ c.in_err-right.ensures.read
    (λ i e. not_taken (operator_shown (suc (c.args.class - 1))) expression_height binary (suc c.args.below) (expr c.args.below (c.args.class - 1)) _ c.line_at-line.result c.row.invariant.rows.0 (expression c.row.left) c.row.rest.now
    c.in-Some.after.now c.in-Some.op i c.row.invariant.rows.2 enough low (ap (λ (n : ℕ). shown_at (operator_shown n) c.row.rest.now) (sym is) ∙ sym c.in-Some.ensures) e))

pub operations-row-preserved : goal.operations-row-preserved
operations-row-preserved t c =
    let low : expression_height (expression c.row.left) < suc c.args.below = (let a = c.row.invariant.tall in let b = c.row-test.true in omega arith) in
    let enough : suc c.args.below < c.row.invariant.rows.0 + expression_height (expression c.row.left) = (let a = c.row.invariant.tall in let b = c.row.invariant.rows.1 in omega arith) in
    let is : c.args.class ≡ suc (c.args.class - 1) = omega arith in
    let made : expression c.in_ok-left-2.left ≡ binary c.line_at-line.result c.in-Some.op (expression c.row.left) (expression c.in_ok-right.right) = c.in_ok-left-2.ensures in
    let tall : 1 + c.max-high.result ≡ expression_height (binary c.line_at-line.result c.in-Some.op (expression c.row.left) (expression c.in_ok-right.right)) =
    (let a = c.row.invariant.tall in let b = c.in_ok-right.ensures.high.0 in let d = c.max-high.ensures in omega arith) in
    let more = taken (operator_shown (suc (c.args.class - 1))) expression_height binary (suc c.args.below) (expr c.args.below (c.args.class - 1)) _ c.line_at-line.result c.row.invariant.rows.0 (expression c.row.left) c.row.rest.now
    c.in-Some.after.now c.in-Some.op (expression c.in_ok-right.right) c.in_ok-right.after.now c.row.invariant.rows.2 enough low (omega arith)
    (ap (λ (n : ℕ). shown_at (operator_shown n) c.row.rest.now) (sym is) ∙ sym c.in-Some.ensures) c.in_ok-right.ensures.read in
    record {
      tall = rw made tall;
      low = (let a = c.in_ok-right.ensures.high.1 in let b = c.row-test.true in let d = c.max-high.ensures in omega arith);
      rows = (more.0, (let a = more.1 in omega arith), rw made more.2);
    }

pub operations-returns-clause-read : goal.operations-returns-clause-read
operations-returns-clause-read t c =
    let is : c.args.class ≡ suc (c.args.class - 1) = omega arith in
    over (operator_shown (suc (c.args.class - 1))) expression_height binary (suc c.args.below) (expr c.args.below (c.args.class - 1)) _ c.line_at-line.result c.row.invariant.rows.0 (expression c.row.left) c.row.rest.now c.row.invariant.rows.2
    (elim c.row-test.branch [
      | operations-else-row-test w ↦ inl (let a = c.row.invariant.tall in let b = w.row-test.false in omega arith)
      | operations-then-row-test+in_default w ↦ inr (ap (λ (n : ℕ). shown_at (operator_shown n) c.row.rest.now) (sym is) ∙ sym w.in_default.ensures)
    ])
