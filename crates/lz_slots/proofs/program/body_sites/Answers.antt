use Rattle.std.proofs.Common.{◌≡◌, ℕ, ◌<◌, ◌∙◌, length, map, slice_index, sym, arith, length-set}
use Rattle.std.proofs.lemmas.List.{length-map}
use Rattle.std.proofs.lemmas.List.Elements.{All-get_or}
use Rattle.lz_tree.specs.ScopedTrees.{scoped_definition}
use Rattle.lz_slots.specs.Walking.{weight_of}
use Rattle.lz_slots.proofs.NestingLemmas.{numbers_turn, numbers_end}
use Rattle.lz_slots.proofs.LocalLemmas.{sites_are_local}
use Rattle.lz_slots.proofs.program.body_sites.Goals as goal

pub loop-function-preserved : goal.loop-function-preserved
loop-function-preserved c =
    let local = sites_are_local (map scoped_definition c.args.functions.now) c.args.turns (weight_of c.args.weight c.args.costs.now) in
    let functions = map scoped_definition c.args.functions.now in
    let i = c.loop-function.function-index in
    let function : ℕ = slice_index c.args.order.now i in
    let low : function < length functions = All-get_or (λ f. f < length functions) c.args.order.now i 0 c.loop-function-test.true c.requires.within in
    let inside : function < length c.loop-function.numbers.items = omega (arith, length-map c.args.functions.now scoped_definition, c.loop-function.invariant.0) in
    let is = rw c.deref.ensures.value at c.sites_of-number.ensures in (
      length-set c.loop-function.numbers.items function c.sites_of-number.result ∙ c.loop-function.invariant.0,
      numbers_turn c.requires local i c.loop-function.numbers.items c.sites_of-number.result c.loop-function-test.true inside is c.loop-function.invariant.1,
    )

pub returns : goal.returns
returns c =
    let local = sites_are_local (map scoped_definition c.args.functions.now) c.args.turns (weight_of c.args.weight c.args.costs.now) in
    let count : length c.loop-function.numbers.items ≡ length (map scoped_definition c.args.functions.now) = c.loop-function.invariant.0 ∙ sym (length-map c.args.functions.now scoped_definition) in
    numbers_end c.requires local c.loop-function.function-index c.loop-function.numbers.items (omega arith) count c.loop-function.invariant.1
