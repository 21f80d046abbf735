use Rattle.std.proofs.Common.{◌≡◌, ◌-◌, suc, map, sym, ◌∙◌}
use Rattle.std.proofs.lemmas.List.{map-append}
use Rattle.std.proofs.lemmas.Result.{err_from_is_err_and}
use Rattle.lz_tree.specs.declared.token.Punct.TheVariants as marks
use Rattle.lz_tree.specs.Trees.{expression}
use Rattle.lz_expr.specs.Grammar.{mark, expr}
use Rattle.lz_expr.proofs.LoopsLemmas.{fails}
use Rattle.lz_grammar.specs.Grammar.{all_values}
use Rattle.lz_grammar.proofs.ValuesLoopLemmas.{values_none, values_fail, values_open, values_last, values_no_comma, values_shut, values_comma, values_on, turn_left}
use Rattle.lz_grammar.proofs.declaration.all_values.Goals as goal

pub values-init : goal.values-init
unfolding all_values
values-init c = rw c.new-values.ensures.items (values_none _)

pub returns-in_err-value : goal.returns-in_err-value
returns-in_err-value c =
    let p = err_from_is_err_and c.from_residual.result c.from_residual.ensures.1 in
    rw (p.1, p.2) (fails c.in_err-value.field-0.0 (expr (c.args.height - 1) 12 c.values.rest.now) _ c.in_err-value.ensures.read
    (λ n e. values_fail expr c.args.height _ c.values.turns (map expression c.values.values.items) c.values.rest.now n c.values.invariant e))

pub returns-in_err-after : goal.returns-in_err-after
returns-in_err-after c =
    let p = err_from_is_err_and c.from_residual-in_err-after.result c.from_residual-in_err-after.ensures.1 in
    rw (p.1, p.2) (fails c.in_err-after.field-0.0 (mark marks.CloseBrace c.in_ok-value.after.now) _ c.in_err-after.ensures
    (λ n e. values_open expr c.args.height _ c.values.turns (map expression c.values.values.items) c.values.rest.now (expression c.in_ok-value.value) c.in_ok-value.after.now n c.values.invariant c.in_ok-value.ensures.read
    (sym c.begins.ensures ∙ c.if-not-begins.true) e))

pub returns-then-not-begins : goal.returns-then-not-begins
returns-then-not-begins c = rw (c.in_ok-push.ensures.items, map-append) (values_last expr c.args.height _ c.values.turns (map expression c.values.values.items) c.values.rest.now (expression c.in_ok-value.value) c.in_ok-value.after.now _ _ c.values.invariant c.in_ok-value.ensures.read
    (sym c.begins.ensures ∙ c.if-not-begins.true) c.in_ok-after.ensures)

pub returns-in_err-after-2 : goal.returns-in_err-after-2
returns-in_err-after-2 c =
    let p = err_from_is_err_and c.from_residual-in_err-after-2.result c.from_residual-in_err-after-2.ensures.1 in
    rw (p.1, p.2) (fails c.in_err-after-2.field-0.0 (mark marks.Comma c.in_ok-value.after.now) _ c.in_err-after-2.ensures
    (λ n e. values_no_comma expr c.args.height _ c.values.turns (map expression c.values.values.items) c.values.rest.now (expression c.in_ok-value.value) c.in_ok-value.after.now n c.values.invariant c.in_ok-value.ensures.read
    (sym c.begins.ensures ∙ c.if-not-begins.false) e))

pub returns-in_err-after-3 : goal.returns-in_err-after-3
returns-in_err-after-3 c =
    let p = err_from_is_err_and c.from_residual-in_err-after-3.result c.from_residual-in_err-after-3.ensures.1 in
    rw (p.1, p.2) (fails c.in_err-after-3.field-0.0 (mark marks.CloseBrace c.in_ok-after-2.after.now) _ c.in_err-after-3.ensures
    (λ n e. values_shut expr c.args.height _ c.values.turns (map expression c.values.values.items) c.values.rest.now (expression c.in_ok-value.value) c.in_ok-value.after.now _ c.in_ok-after-2.after.now n c.values.invariant c.in_ok-value.ensures.read
    (sym c.begins.ensures ∙ c.if-not-begins.false) c.in_ok-after-2.ensures (sym c.begins_value.ensures ∙ c.if-not-begins_value.true) e))

pub returns-then-not-begins_value : goal.returns-then-not-begins_value
returns-then-not-begins_value c = rw (c.in_ok-push.ensures.items, map-append) (values_comma expr c.args.height _ c.values.turns (map expression c.values.values.items) c.values.rest.now (expression c.in_ok-value.value) c.in_ok-value.after.now _ c.in_ok-after-2.after.now _ _ c.values.invariant
    c.in_ok-value.ensures.read (sym c.begins.ensures ∙ c.if-not-begins.false) c.in_ok-after-2.ensures (sym c.begins_value.ensures ∙ c.if-not-begins_value.true) c.in_ok-after-3.ensures)

pub values-preserved : goal.values-preserved
values-preserved c =
    let more = sym c.begins_value.ensures ∙ c.if-not-begins_value.false in
    let is : suc (c.values.turns - 1) ≡ c.values.turns = turn_left c.values.turns c.in_ok-after-2.after.now more in
    rw (c.in_ok-push.ensures.items, map-append, is) (values_on expr c.args.height _ c.values.turns (map expression c.values.values.items) c.values.rest.now (expression c.in_ok-value.value) c.in_ok-value.after.now _ c.in_ok-after-2.after.now c.values.invariant c.in_ok-value.ensures.read
    (sym c.begins.ensures ∙ c.if-not-begins.false) c.in_ok-after-2.ensures more)
