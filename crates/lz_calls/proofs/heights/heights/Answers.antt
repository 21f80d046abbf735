use Rattle.std.proofs.Common.{◌≡◌, ℕ, ◌<◌, ◌∙◌, length, map, slice_index, sym, arith}
use Rattle.std.proofs.lemmas.List.{length-map}
use Rattle.std.proofs.lemmas.List.Elements.{All-get_or}
use Rattle.lz_tree.specs.ScopedTrees.{scoped_definition}
use Rattle.lz_calls.proofs.HeightsLemmas.{known_start, known_turn, known_end}
use Rattle.lz_calls.proofs.heights.heights.Goals as goal

pub loop-function-init : goal.loop-function-init
loop-function-init c =
    known_start (map scoped_definition c.args.functions.now) c.args.ranks.now c.args.order.now c.in_ok-heights.heights.items (omega (arith, c.in_ok-heights.ensures.len, length-map c.args.functions.now scoped_definition))

pub loop-function-preserved : goal.loop-function-preserved
loop-function-preserved c =
    let functions = map scoped_definition c.args.functions.now in
    let i = c.loop-function.function-index in
    let function : ℕ = slice_index c.args.order.now i in
    let low : function < length functions = All-get_or (λ f. f < length functions) c.args.order.now i 0 c.loop-function-test.true c.requires.order.within in
    let inside : function < length c.loop-function.heights.items = omega (arith, c.loop-function.invariant.long) in
    let is = rw c.deref.ensures.value at c.body_height-height.ensures in
    known_turn functions c.args.ranks.now c.args.order.now i c.loop-function.heights.items c.body_height-height.result c.requires.ranking c.requires.order c.loop-function-test.true inside is c.loop-function.invariant

pub returns : goal.returns
returns c =
    let functions = map scoped_definition c.args.functions.now in (
      c.loop-function.invariant.long ∙ length-map c.args.functions.now scoped_definition,
      known_end functions c.args.ranks.now c.args.order.now c.loop-function.function-index c.loop-function.heights.items c.requires.order c.loop-function-test.false c.loop-function.invariant,
    )
