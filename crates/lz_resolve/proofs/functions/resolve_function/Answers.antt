use Rattle.std.proofs.Common.{refl, ◌∙◌}
use Rattle.lz_tree.specs.Trees.{statement}
use Rattle.lz_tree.specs.ScopedTrees.{scoped_statement}
use Rattle.lz_scopes.proofs.PlacesLemmas.{InFunction, in_function, leavable, below_top, function_behind}
use Rattle.lz_resolve.proofs.FunctionsLemmas.{made_function}
use Rattle.lz_resolve.proofs.functions.resolve_function.Goals as goal

pub leave_function-requires-clause-mark : goal.leave_function-requires-clause-mark
leave_function-requires-clause-mark c =
    let k : InFunction c.args.place.now c.resolve_body.new.place c.args.name =
    in_function c.args.place.now _ _ c.resolve_body.new.place c.args.name c.args.gives c.args.params.now (statement c.args.body.now)
    c.in_ok-outer.ensures.place c.in_ok-declare_params.ensures c.in_ok-body.ensures.place in
    leavable c.args.place.now c.resolve_body.new.place c.args.name c.in_ok-outer.outer k c.in_ok-outer.ensures.outer

pub leave_function-requires-clause-depth : goal.leave_function-requires-clause-depth
leave_function-requires-clause-depth c =
    below_top c.args.place.now c.resolve_body.new.place c.args.name
    (in_function c.args.place.now _ _ c.resolve_body.new.place c.args.name c.args.gives c.args.params.now (statement c.args.body.now)
    c.in_ok-outer.ensures.place c.in_ok-declare_params.ensures c.in_ok-body.ensures.place)

pub returns-clause-place : goal.returns-clause-place
returns-clause-place c =
    let k : InFunction c.args.place.now c.resolve_body.new.place c.args.name =
    in_function c.args.place.now _ _ c.resolve_body.new.place c.args.name c.args.gives c.args.params.now (statement c.args.body.now)
    c.in_ok-outer.ensures.place c.in_ok-declare_params.ensures c.in_ok-body.ensures.place in
    c.in_ok-leave_function.ensures
    ∙ (function_behind c.args.place.now c.resolve_body.new.place c.args.name c.in_ok-outer.outer k c.in_ok-outer.ensures.outer
    ∙ rw (c.in_ok-body.ensures.place, c.in_ok-declare_params.ensures, c.in_ok-outer.ensures.place) refl)

pub returns-clause-tree : goal.returns-clause-tree
returns-clause-tree c =
    made_function c.args.file.now c.args.place.now c.enter.new.place c.declare_params.new.place c.resolve_body.new.place c.args.gives c.args.name c.args.params.now (statement c.args.body.now)
    c.is_start_form.result c.in_ok-kinds.kinds c.value_kind.result (scoped_statement c.in_ok-body.body)
    c.in_ok-outer.ensures.place c.in_ok-declare_params.ensures c.in_ok-body.ensures.place c.is_start_form.ensures c.in_ok-kinds.ensures
    (rw c.value_type.ensures at c.value_kind.ensures) c.in_ok-body.ensures.tree
