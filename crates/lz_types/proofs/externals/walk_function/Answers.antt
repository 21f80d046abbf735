use Rattle.std.proofs.Common.{refl, ◌∙◌}
use Rattle.lz_tree.specs.Trees.{statement}
use Rattle.lz_scopes.proofs.PlacesLemmas.{InFunction, in_function, leavable, below_top, function_behind}
use Rattle.lz_types.proofs.externals.walk_function.Goals as goal

pub leave_function-requires-clause-mark : goal.leave_function-requires-clause-mark
leave_function-requires-clause-mark c =
    let w : InFunction c.args.place.now c.walk_body.new.place c.args.name =
    in_function c.args.place.now _ _ c.walk_body.new.place c.args.name c.args.gives c.args.params.now (statement c.args.body.now)
    c.in_ok-outer.ensures.place c.in_ok-walk_params.ensures.place c.in_ok-walk_body.ensures.place in
    leavable c.args.place.now c.walk_body.new.place c.args.name c.in_ok-outer.outer w c.in_ok-outer.ensures.outer

pub leave_function-requires-clause-depth : goal.leave_function-requires-clause-depth
leave_function-requires-clause-depth c =
    below_top c.args.place.now c.walk_body.new.place c.args.name
    (in_function c.args.place.now _ _ c.walk_body.new.place c.args.name c.args.gives c.args.params.now (statement c.args.body.now)
    c.in_ok-outer.ensures.place c.in_ok-walk_params.ensures.place c.in_ok-walk_body.ensures.place)

pub returns-clause-place : goal.returns-clause-place
returns-clause-place c =
    let w : InFunction c.args.place.now c.walk_body.new.place c.args.name =
    in_function c.args.place.now _ _ c.walk_body.new.place c.args.name c.args.gives c.args.params.now (statement c.args.body.now)
    c.in_ok-outer.ensures.place c.in_ok-walk_params.ensures.place c.in_ok-walk_body.ensures.place in
    c.in_ok-leave_function.ensures
    ∙ (function_behind c.args.place.now c.walk_body.new.place c.args.name c.in_ok-outer.outer w c.in_ok-outer.ensures.outer
    ∙ rw (c.in_ok-walk_body.ensures.place, c.in_ok-walk_params.ensures.place, c.in_ok-outer.ensures.place) refl)
