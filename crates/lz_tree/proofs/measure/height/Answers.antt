use Rattle.std.proofs.Common.{arith, ◌≡◌, ◌≤◌, map, sym, ◌∙◌, ap}
use Rattle.lz_tree.specs.Trees.{external_declaration}
use Rattle.lz_tree.specs.Height.{greatest, external_height}
use Rattle.lz_tree.proofs.HeightLemmas.{greatest-map, so_far_start, so_far_turn, so_far_item, so_far_end}
use Rattle.lz_tree.proofs.measure.height.Goals as goal

pub loop-item-init : goal.loop-item-init
loop-item-init c = so_far_start _ _

pub external_height-requires : goal.external_height-requires
external_height-requires c =
    let low : external_height (external_declaration c.item-item.result) ≤ greatest (λ x. external_height (external_declaration x)) c.items-items.result.now =
    so_far_item (λ x. external_height (external_declaration x)) c.loop-item-test.true c.item-item.is c.loop-item.invariant in
    let all : greatest external_height (map external_declaration c.args.program.now.externals) ≡ greatest (λ x. external_height (external_declaration x)) c.items-items.result.now =
    greatest-map external_height external_declaration c.args.program.now.externals ∙ ap (greatest (λ x. external_height (external_declaration x))) (sym c.items-items.ensures) in
    omega (arith, all, c.requires)

pub loop-item-preserved : goal.loop-item-preserved
loop-item-preserved c =
    let turn = so_far_turn (λ x. external_height (external_declaration x)) c.loop-item-test.true c.item-item.is c.loop-item.invariant in
    rw (c.max-top.ensures, c.external_height.ensures) turn

pub returns : goal.returns
returns c =
    let end = so_far_end (λ x. external_height (external_declaration x)) (omega arith) c.loop-item.invariant in
    let all : greatest external_height (map external_declaration c.args.program.now.externals) ≡ greatest (λ x. external_height (external_declaration x)) c.items-items.result.now =
    greatest-map external_height external_declaration c.args.program.now.externals ∙ ap (greatest (λ x. external_height (external_declaration x))) (sym c.items-items.ensures) in
    end ∙ sym all
