use Rattle.std.proofs.Common.{◌≡◌, map, drop, arith}
use Rattle.lz_tree.specs.Trees.{expression, expressions_of}
use Rattle.lz_scopes.specs.ExpressionTypes.{first_want, wants_of, further_want}
use Rattle.lz_tree.proofs.TreesLemmas.{is_call}
use Rattle.lz_types.proofs.WalkLemmas.{faults_more, faults_done, call_faults}
use Rattle.lz_types.proofs.walk.+walk.Goals as goal

pub walk_args-loop-e-preserved : goal.walk_args-loop-e-preserved
walk_args-loop-e-preserved t c =
    let at = c.loop-e.invariant.at in
    let wanted : c.want_at-want.result ≡ first_want (drop c.loop-e.e-index (wants_of c.args.file.now c.args.callee)) (further_want c.args.callee) =
    rw at at c.want_at-want.ensures in
    record {
      at = omega arith;
      left = faults_more c.args.file.now c.args.place.now (wants_of c.args.file.now c.args.callee) (further_want c.args.callee) _ c.loop-e.faults.items c.walk.new.faults.items
          c.args.args.now c.loop-e.e-index c.e-item.result c.loop-e.invariant.left c.loop-e-test.true c.e-item.is (rw wanted at c.in_ok-walk.ensures);
    }

pub walk_args-returns : goal.walk_args-returns
walk_args-returns t c =
    faults_done c.args.file.now c.args.place.now (wants_of c.args.file.now c.args.callee) (further_want c.args.callee) _ c.loop-e.faults.items
    c.args.args.now c.loop-e.e-index c.loop-e.invariant.left c.loop-e-test.false

pub walk-returns-in_ok-walk_args-in-Call : goal.walk-returns-in_ok-walk_args-in-Call
walk-returns-in_ok-walk_args-in-Call t c =
    let is = is_call c.args.e.now c.in-Call.line c.in-Call.name c.in-Call.args c.in-Call.is in
    call_faults c.args.file.now c.args.place.now c.args.want (expression c.args.e.now) c.in-Call.line c.in-Call.name
    (expressions_of (map expression c.deref-in-Call.result.now)) c.callee-callee.result c.args.faults.now.items c.note.new.faults.items c.walk_args.new.faults.items
    (rw (← c.deref-in-Call.ensures.value) at is) c.callee-callee.ensures c.in_ok-note.ensures c.in_ok-walk_args-in-Call.ensures
