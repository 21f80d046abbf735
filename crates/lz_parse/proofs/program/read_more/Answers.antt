use Rattle.std.proofs.Common.{length, map, sym, ◌∙◌, inl, inr}
use Rattle.std.proofs.lemmas.List.{map-append}
use Rattle.std.proofs.lemmas.Result.{err_from_is_err_and}
use Rattle.lz_tree.specs.Trees.{external_declaration}
use Rattle.lz_expr.proofs.LoopsLemmas.{fails}
use Rattle.lz_parse.specs.Grammar.{begins_external, external}
use Rattle.lz_parse.proofs.LoopsLemmas.{many_more, many_fails, many_ends}
use Rattle.lz_parse.proofs.program.read_more.Goals as goal
use Rattle.lz_parse.proofs.program.read_more.Goals.{else-turns-test, then-turns-test+then-not-begins_external}

pub returns-in_err-external : goal.returns-in_err-external
returns-in_err-external c =
    let p = err_from_is_err_and c.from_residual-in_err-external.result c.from_residual-in_err-external.ensures.1 in
    rw (p.1, p.2) (fails c.in_err-external.field-0.0 (external c.args.height c.turns.rest.now) _ c.in_err-external.ensures
    (λ n e. many_fails begins_external (external c.args.height) _ (length c.args.tokens.now) c.turns._turn (map external_declaration c.turns.externals) n c.turns.rest.now c.turns.invariant c.turns-test.true
    (sym c.begins_external.ensures ∙ c.if-not-begins_external.false) e))

pub turns-preserved : goal.turns-preserved
turns-preserved c = rw (c.in_ok-push-2.ensures.ok, map-append)
    (many_more begins_external (external c.args.height) _ (length c.args.tokens.now) c.turns._turn (map external_declaration c.turns.externals) (external_declaration c.in_ok-external.external) c.turns.rest.now c.in_ok-external.after.now
    c.turns.invariant c.turns-test.true (sym c.begins_external.ensures ∙ c.if-not-begins_external.false) c.in_ok-external.ensures)

pub returns : goal.returns
returns c = many_ends begins_external (external c.args.height) _ (length c.args.tokens.now) c.turns._turn (map external_declaration c.turns.externals) c.turns.rest.now c.turns.invariant
    (elim c.turns-test.branch [ else-turns-test w ↦ inl w.turns-test.false | then-turns-test+then-not-begins_external w ↦ inr (sym w.begins_external.ensures ∙ w.if-not-begins_external.true) ])
