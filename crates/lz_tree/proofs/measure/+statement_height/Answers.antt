use Rattle.std.proofs.Common.{rules, arith, ◌≡◌, ◌<◌, ◌≤◌, map, suc, subst, sym, ◌∙◌, ap}
use denote.Param.Weighed.{most, at_most}
use Rattle.lz_tree.specs.declared.statement.Stmt.{Stmt, the_lemmas}
use Rattle.lz_tree.proofs.statement.Stmt.TheLaws.{the_size}
use Rattle.lz_tree.specs.Trees.{statement, statements_of}
use Rattle.lz_tree.specs.Height.{greatest, statement_height, parts_height}
use Rattle.lz_tree.proofs.TreesLemmas.{is_block}
use Rattle.lz_tree.proofs.HeightLemmas.{parts_height-of, so_far_start, so_far_turn, so_far_item, so_far_end}
use Rattle.lz_tree.proofs.measure.+statement_height.Goals as goal

pub statement_height-parts_height-requires : goal.statement_height-parts_height-requires
statement_height-parts_height-requires t c =
    let is = is_block c.args.s.now c.in-Block.parts c.in-Block.is in
    let low = rw (ap statement_height is, ← c.deref.ensures.value) at c.requires in
    (search (rules, the_lemmas), omega (arith, low))

pub statement_height-overflow_add-result-in-Block :
    goal.statement_height-overflow_add-result-in-Block
statement_height-overflow_add-result-in-Block t c =
    let is = is_block c.args.s.now c.in-Block.parts c.in-Block.is in
    let low = rw (ap statement_height is, ← c.deref.ensures.value) at c.requires in
    grind (arith, low, c.parts_height.ensures)

pub statement_height-returns-in-Block : goal.statement_height-returns-in-Block
statement_height-returns-in-Block t c =
    let is = is_block c.args.s.now c.in-Block.parts c.in-Block.is in
    let given : statement_height (statement c.args.s.now) ≡ suc (parts_height (statements_of (map statement c.deref.result.now))) =
    rw c.deref.ensures.value (ap statement_height is) in
    omega (arith, c.parts_height.ensures)

pub parts_height-loop-item-init : goal.parts_height-loop-item-init
parts_height-loop-item-init t c = so_far_start _ _

pub parts_height-statement_height-requires : goal.parts_height-statement_height-requires
parts_height-statement_height-requires t c =
    let low : statement_height (statement c.item-item.result) ≤ greatest (λ x. statement_height (statement x)) c.args.items.now =
    so_far_item (λ x. statement_height (statement x)) c.loop-item-test.true c.item-item.is c.loop-item.invariant in
    let bound : greatest (λ x. statement_height (statement x)) c.args.items.now < 4294967296 = subst (λ n. n < 4294967296) (parts_height-of statement c.args.items.now) c.requires in
    let deep : the_size c.item-item.result ≤ most the_size c.args.items.now =
    subst (λ (x : Stmt). the_size x ≤ most the_size c.args.items.now) (sym c.item-item.is) (at_most the_size c.args.items.now c.loop-item.item-index c.item-item.result c.loop-item-test.true) in
    (search rules, omega arith)

pub parts_height-loop-item-preserved : goal.parts_height-loop-item-preserved
parts_height-loop-item-preserved t c =
    let turn = so_far_turn (λ x. statement_height (statement x)) c.loop-item-test.true c.item-item.is c.loop-item.invariant in
    rw (c.max-top.ensures, c.statement_height.ensures) turn

pub parts_height-returns : goal.parts_height-returns
parts_height-returns t c =
    let end = so_far_end (λ x. statement_height (statement x)) (omega arith) c.loop-item.invariant in
    end ∙ sym (parts_height-of statement c.args.items.now)
