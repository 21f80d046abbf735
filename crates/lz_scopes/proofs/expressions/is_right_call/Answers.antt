use Rattle.std.proofs.Common.{◌≡◌, map}
use Rattle.lz_tree.specs.Trees.{expression, expressions_of}
use Rattle.lz_scopes.specs.ExpressionTypes.{wrong_call, late_call, count}
use Rattle.lz_scopes.proofs.ArgumentsLemmas.{count_of, wrong_early, wrong_late}
use Rattle.lz_scopes.proofs.expressions.is_right_call.Goals as goal

pub returns-in-Some : goal.returns-in-Some
returns-in-Some c =
    let args = expressions_of (map expression c.args.args.now) in
    wrong_early c.wrong_call.result (wrong_call c.args.file.now c.args.callee (count args)) (late_call c.args.file.now c.args.place.now c.args.callee args)
    c.in-Some.is (rw (count_of c.args.args.now) c.wrong_call.ensures)

pub returns-in-None : goal.returns-in-None
returns-in-None c =
    let args = expressions_of (map expression c.args.args.now) in
    wrong_late c.wrong_call.result (wrong_call c.args.file.now c.args.callee (count args)) (late_call c.args.file.now c.args.place.now c.args.callee args)
    c.breaks_late-wrong.result c.in-None.is (rw (count_of c.args.args.now) c.wrong_call.ensures) c.breaks_late-wrong.ensures
