use Rattle.std.proofs.Common.{◌∙◌, ap, sym, map, List}
use Rattle.lz_tree.specs.declared.scoped.ScopedExpr.{ScopedExpr}
use Rattle.lz_tree.specs.ScopedTrees.{scoped_expression, scoped_expressions_of}
use Rattle.lz_tree.proofs.ScopedTreesLemmas.{is_scoped_call}
use Rattle.lz_turns.specs.Moves.{arguments_of}
use Rattle.lz_turns.proofs.calls.arguments.Goals as goal

pub returns-in-Call : goal.returns-in-Call
returns-in-Call c =
    let is = is_scoped_call c.args.e.now c.in-Call.line c.in-Call.callee c.in-Call.args c.in-Call.kind c.in-Call.is in
    ap (λ (xs : List ScopedExpr). scoped_expressions_of (map scoped_expression xs)) c.deref.ensures.value ∙ sym (ap arguments_of is)
