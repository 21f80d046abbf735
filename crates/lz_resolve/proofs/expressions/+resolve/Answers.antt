use Rattle.std.proofs.Common.{map}
use Rattle.lz_tree.specs.Trees.{expression, expressions_of}
use Rattle.lz_tree.specs.ScopedTrees.{scoped_expression}
use Rattle.lz_tree.proofs.TreesLemmas.{is_call}
use Rattle.lz_resolve.proofs.ExpressionsLemmas.{made_more, made_all, made_call}
use Rattle.lz_resolve.proofs.expressions.+resolve.Goals as goal

pub resolve_all-loop-e-preserved : goal.resolve_all-loop-e-preserved
resolve_all-loop-e-preserved t c =
    made_more c.args.file.now c.args.place.now _ c.loop-e.all.items _ c.args.args.now c.loop-e.e-index c.e-item.result c.in_ok-scoped.scoped
    c.loop-e.invariant c.loop-e-test.true c.e-item.is c.in_ok-scoped.ensures c.in_ok-push.ensures.items

pub resolve_all-returns : goal.resolve_all-returns
resolve_all-returns t c = made_all c.args.file.now c.args.place.now _ c.loop-e.all.items c.args.args.now c.loop-e.e-index c.loop-e.invariant c.loop-e-test.false

pub resolve_expr-returns-in_ok-args-in-Call : goal.resolve_expr-returns-in_ok-args-in-Call
resolve_expr-returns-in_ok-args-in-Call t c =
    let is = is_call c.args.e.now c.in-Call.line c.in-Call.name c.in-Call.args c.in-Call.is in
    made_call c.args.file.now c.args.place.now (expression c.args.e.now) (scoped_expression c.call_of.result) c.in-Call.line c.in-Call.name
    (expressions_of (map expression c.deref-in-Call.result.now)) c.called.result _ c.kind_at-kind.result
    (rw (← c.deref-in-Call.ensures.value) at is) c.kind_at-kind.ensures c.called.ensures c.in_ok-args-in-Call.ensures c.call_of.ensures
