use Rattle.std.proofs.Common.{map, refl, sym, ◌∙◌, arith, inl, inr}
use Rattle.std.proofs.lemmas.List.{map-append}
use Rattle.std.proofs.lemmas.Result.{err_from_is_err_and}
use Rattle.lz_tree.specs.declared.token.Punct.TheVariants as marks
use Rattle.lz_tree.specs.Languages.{is_mark}
use Rattle.lz_tree.specs.Trees.{statement}
use Rattle.lz_expr.specs.Grammar.{mark}
use Rattle.lz_expr.proofs.LoopsLemmas.{until_more, until_fails, until_ends, fails}
use Rattle.lz_grammar.specs.Grammar.{stmt}
use Rattle.lz_grammar.proofs.PartsLemmas.{parts_begin}
use Rattle.lz_grammar.proofs.statement.+statement.Goals as goal
use Rattle.lz_grammar.proofs.statement.+statement.Goals.{parts-else-turns-test, parts-then-turns-test+then-begins}

pub parts-turns-init : goal.parts-turns-init
parts-turns-init t c = rw c.new-parts.ensures.items (parts_begin (stmt c.args.below) c.args.tokens.now c.args.below c.most_parts-most.result c.most_parts-most.ensures)

pub parts-returns-in_err-part : goal.parts-returns-in_err-part
parts-returns-in_err-part t c =
    let p = err_from_is_err_and c.from_residual.result c.from_residual.ensures.1 in
    rw (p.1, p.2) (fails c.in_err-part.field-0.0 (stmt c.args.below c.turns.rest.now) _ c.in_err-part.ensures (λ n e.
    until_fails (is_mark marks.CloseBrace) (mark marks.CloseBrace) (stmt c.args.below) _ c.most_parts-most.result c.turns._turn (map statement c.turns.parts.items) n c.turns.rest.now c.turns.invariant c.turns-test.true (sym c.begins.ensures ∙ c.if-begins.false) e))

pub parts-turns-preserved : goal.parts-turns-preserved
parts-turns-preserved t c =
    rw (c.in_ok-push.ensures.items, map-append) (until_more (is_mark marks.CloseBrace) (mark marks.CloseBrace) (stmt c.args.below) _ c.most_parts-most.result c.turns._turn (map statement c.turns.parts.items) (statement c.in_ok-part.part) c.turns.rest.now c.in_ok-part.after.now c.turns.invariant
    c.turns-test.true (sym c.begins.ensures ∙ c.if-begins.false) c.in_ok-part.ensures)

pub parts-returns-in_err-rest : goal.parts-returns-in_err-rest
parts-returns-in_err-rest t c =
    let e = until_ends (is_mark marks.CloseBrace) (mark marks.CloseBrace) (stmt c.args.below) _ c.most_parts-most.result c.turns._turn (map statement c.turns.parts.items) c.turns.rest.now c.turns.invariant
    (elim c.turns-test.branch [ parts-else-turns-test w ↦ inl (omega arith) | parts-then-turns-test+then-begins w ↦ inr (sym w.begins.ensures ∙ w.if-begins.true) ]) in
    let p = err_from_is_err_and c.from_residual-in_err-rest.result c.from_residual-in_err-rest.ensures.1 in
    rw (p.1, p.2) (fails c.in_err-rest.field-0.0 (mark marks.CloseBrace c.turns.rest.now) _ c.in_err-rest.ensures (λ n h. rw (e, h) refl))

pub parts-returns : goal.parts-returns
parts-returns t c =
    let e = until_ends (is_mark marks.CloseBrace) (mark marks.CloseBrace) (stmt c.args.below) _ c.most_parts-most.result c.turns._turn (map statement c.turns.parts.items) c.turns.rest.now c.turns.invariant
    (elim c.turns-test.branch [ parts-else-turns-test w ↦ inl (omega arith) | parts-then-turns-test+then-begins w ↦ inr (sym w.begins.ensures ∙ w.if-begins.true) ]) in
    rw (e, c.in_ok-rest.ensures) refl
