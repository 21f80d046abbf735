use Rattle.std.proofs.Common.{arith, ◌≡◌, ◌≤◌, map, sym, ◌∙◌, ap}
use Rattle.lz_tree.specs.Trees.{init_declarator}
use Rattle.lz_tree.specs.Height.{greatest, declarator_height}
use Rattle.lz_tree.proofs.HeightLemmas.{greatest-map, so_far_start, so_far_turn, so_far_item, so_far_end}
use Rattle.lz_tree.proofs.measure.declaration_height.Goals as goal

pub loop-item-init : goal.loop-item-init
loop-item-init c = so_far_start _ _

pub declarator_height-requires : goal.declarator_height-requires
declarator_height-requires c =
    let low : declarator_height (init_declarator c.item-item.result) ≤ greatest (λ x. declarator_height (init_declarator x)) c.items-items.result.now =
    so_far_item (λ x. declarator_height (init_declarator x)) c.loop-item-test.true c.item-item.is c.loop-item.invariant in
    let all : greatest declarator_height (map init_declarator c.args.objects.now.declarators) ≡ greatest (λ x. declarator_height (init_declarator x)) c.items-items.result.now =
    greatest-map declarator_height init_declarator c.args.objects.now.declarators ∙ ap (greatest (λ x. declarator_height (init_declarator x))) (sym c.items-items.ensures) in
    omega (arith, all, c.requires)

pub loop-item-preserved : goal.loop-item-preserved
loop-item-preserved c =
    let turn = so_far_turn (λ x. declarator_height (init_declarator x)) c.loop-item-test.true c.item-item.is c.loop-item.invariant in
    rw (c.max-top.ensures, c.declarator_height.ensures) turn

pub returns : goal.returns
returns c =
    let end = so_far_end (λ x. declarator_height (init_declarator x)) (omega arith) c.loop-item.invariant in
    let all : greatest declarator_height (map init_declarator c.args.objects.now.declarators) ≡ greatest (λ x. declarator_height (init_declarator x)) c.items-items.result.now =
    greatest-map declarator_height init_declarator c.args.objects.now.declarators ∙ ap (greatest (λ x. declarator_height (init_declarator x))) (sym c.items-items.ensures) in
    end ∙ sym all
