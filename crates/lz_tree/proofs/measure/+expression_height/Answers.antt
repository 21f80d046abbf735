use Rattle.std.proofs.Common.{rules, arith, ◌≡◌, ◌<◌, ◌≤◌, map, suc, subst, sym, ◌∙◌, ap}
use denote.Param.Weighed.{most, at_most}
use Rattle.lz_tree.specs.declared.expression.Expr.{Expr, the_lemmas}
use Rattle.lz_tree.proofs.expression.Expr.TheLaws.{the_size}
use Rattle.lz_tree.specs.Trees.{expression, expressions_of}
use Rattle.lz_tree.specs.Height.{greatest, expression_height, highest}
use Rattle.lz_tree.proofs.TreesLemmas.{is_call}
use Rattle.lz_tree.proofs.HeightLemmas.{highest-of, so_far_start, so_far_turn, so_far_item, so_far_end}
use Rattle.lz_tree.proofs.measure.+expression_height.Goals as goal

pub expression_height-highest-requires : goal.expression_height-highest-requires
expression_height-highest-requires t c =
    let is = is_call c.args.e.now c.in-Call.line c.in-Call.name c.in-Call.args c.in-Call.is in
    let low = rw (ap expression_height is, ← c.deref-in-Call.ensures.value) at c.requires in
    (search (rules, the_lemmas), omega (arith, low))

pub expression_height-overflow_add-result-in-Call :
    goal.expression_height-overflow_add-result-in-Call
expression_height-overflow_add-result-in-Call t c =
    let is = is_call c.args.e.now c.in-Call.line c.in-Call.name c.in-Call.args c.in-Call.is in
    let low = rw (ap expression_height is, ← c.deref-in-Call.ensures.value) at c.requires in
    grind (arith, low, c.highest.ensures)

pub expression_height-returns-in-Call : goal.expression_height-returns-in-Call
expression_height-returns-in-Call t c =
    let is = is_call c.args.e.now c.in-Call.line c.in-Call.name c.in-Call.args c.in-Call.is in
    let given : expression_height (expression c.args.e.now) ≡ suc (highest (expressions_of (map expression c.deref-in-Call.result.now))) =
    rw c.deref-in-Call.ensures.value (ap expression_height is) in
    omega (arith, c.highest.ensures)

pub highest-loop-item-init : goal.highest-loop-item-init
highest-loop-item-init t c = so_far_start _ _

pub highest-expression_height-requires : goal.highest-expression_height-requires
highest-expression_height-requires t c =
    let low : expression_height (expression c.item-item.result) ≤ greatest (λ x. expression_height (expression x)) c.args.items.now =
    so_far_item (λ x. expression_height (expression x)) c.loop-item-test.true c.item-item.is c.loop-item.invariant in
    let bound : greatest (λ x. expression_height (expression x)) c.args.items.now < 4294967296 = subst (λ n. n < 4294967296) (highest-of expression c.args.items.now) c.requires in
    let deep : the_size c.item-item.result ≤ most the_size c.args.items.now =
    subst (λ (x : Expr). the_size x ≤ most the_size c.args.items.now) (sym c.item-item.is) (at_most the_size c.args.items.now c.loop-item.item-index c.item-item.result c.loop-item-test.true) in
    (search rules, omega arith)

pub highest-loop-item-preserved : goal.highest-loop-item-preserved
highest-loop-item-preserved t c =
    let turn = so_far_turn (λ x. expression_height (expression x)) c.loop-item-test.true c.item-item.is c.loop-item.invariant in
    rw (c.max-top.ensures, c.expression_height.ensures) turn

pub highest-returns : goal.highest-returns
highest-returns t c =
    let end = so_far_end (λ x. expression_height (expression x)) (omega arith) c.loop-item.invariant in
    end ∙ sym (highest-of expression c.args.items.now)
