use Rattle.std.proofs.Common.{length, refl, sym, ◌∙◌, arith, inl, inr}
use Rattle.std.proofs.lemmas.Result.{err_from_is_err_and}
use Rattle.lz_tree.specs.declared.token.Punct.TheVariants as marks
use Rattle.lz_tree.specs.Languages.{is_mark}
use Rattle.lz_expr.specs.Grammar.{mark}
use Rattle.lz_expr.proofs.LoopsLemmas.{until_more, until_fails, until_ends, fails}
use Rattle.lz_grammar.specs.Grammar.{next_param}
use Rattle.lz_grammar.proofs.params.more_params.Goals as goal
use Rattle.lz_grammar.proofs.params.more_params.Goals.{else-turns-test, then-turns-test+then-begins}

pub returns-in_err-param : goal.returns-in_err-param
returns-in_err-param c =
    let p = err_from_is_err_and c.from_residual-in_err-param.result c.from_residual-in_err-param.ensures.1 in
    rw (p.1, p.2) (fails c.in_err-param.field-0.0 (next_param c.turns.rest.now) _ c.in_err-param.ensures (λ n e.
    until_fails (is_mark marks.CloseParen) (mark marks.CloseParen) next_param _ (length c.args.tokens.now) c.turns._turn c.turns.params n c.turns.rest.now c.turns.invariant c.turns-test.true (sym c.begins.ensures ∙ c.if-begins.false) e))

pub turns-preserved : goal.turns-preserved
turns-preserved c =
    rw c.in_ok-push-2.ensures.ok (until_more (is_mark marks.CloseParen) (mark marks.CloseParen) next_param _ (length c.args.tokens.now) c.turns._turn c.turns.params c.in_ok-param.param c.turns.rest.now c.in_ok-param.after.now c.turns.invariant
    c.turns-test.true (sym c.begins.ensures ∙ c.if-begins.false) c.in_ok-param.ensures)

pub returns-in_err-rest : goal.returns-in_err-rest
returns-in_err-rest c =
    let e = until_ends (is_mark marks.CloseParen) (mark marks.CloseParen) next_param _ (length c.args.tokens.now) c.turns._turn c.turns.params c.turns.rest.now c.turns.invariant
    (elim c.turns-test.branch [ else-turns-test w ↦ inl (omega arith) | then-turns-test+then-begins w ↦ inr (sym w.begins.ensures ∙ w.if-begins.true) ]) in
    let p = err_from_is_err_and c.from_residual-in_err-rest.result c.from_residual-in_err-rest.ensures.1 in
    rw (p.1, p.2) (fails c.in_err-rest.field-0.0 (mark marks.CloseParen c.turns.rest.now) _ c.in_err-rest.ensures (λ n h. rw (e, h) refl))

pub returns : goal.returns
returns c =
    let e = until_ends (is_mark marks.CloseParen) (mark marks.CloseParen) next_param _ (length c.args.tokens.now) c.turns._turn c.turns.params c.turns.rest.now c.turns.invariant
    (elim c.turns-test.branch [ else-turns-test w ↦ inl (omega arith) | then-turns-test+then-begins w ↦ inr (sym w.begins.ensures ∙ w.if-begins.true) ]) in
    rw (e, c.in_ok-rest.ensures) refl
