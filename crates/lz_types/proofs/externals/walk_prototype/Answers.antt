use Rattle.std.proofs.Common.{◌∙◌}
use Rattle.lz_scopes.proofs.PlacesLemmas.{InFunction, in_prototype, leavable, below_top, prototype_behind}
use Rattle.lz_types.proofs.externals.walk_prototype.Goals as goal

pub leave_prototype-requires-clause-mark : goal.leave_prototype-requires-clause-mark
leave_prototype-requires-clause-mark c =
    let w : InFunction c.args.place.now c.walk_params.new.place c.args.name =
    in_prototype c.args.place.now _ c.walk_params.new.place c.args.name c.args.gives c.args.params.now c.in_ok-outer.ensures.place c.in_ok-walk_params.ensures.place in
    leavable c.args.place.now c.walk_params.new.place c.args.name c.in_ok-outer.outer w c.in_ok-outer.ensures.outer

pub leave_prototype-requires-clause-depth : goal.leave_prototype-requires-clause-depth
leave_prototype-requires-clause-depth c =
    below_top c.args.place.now c.walk_params.new.place c.args.name
    (in_prototype c.args.place.now _ c.walk_params.new.place c.args.name c.args.gives c.args.params.now c.in_ok-outer.ensures.place c.in_ok-walk_params.ensures.place)

pub returns-clause-place : goal.returns-clause-place
returns-clause-place c =
    let w : InFunction c.args.place.now c.walk_params.new.place c.args.name =
    in_prototype c.args.place.now _ c.walk_params.new.place c.args.name c.args.gives c.args.params.now c.in_ok-outer.ensures.place c.in_ok-walk_params.ensures.place in
    c.leave_prototype.ensures ∙ prototype_behind c.args.place.now c.walk_params.new.place c.args.name c.in_ok-outer.outer w c.in_ok-outer.ensures.outer
