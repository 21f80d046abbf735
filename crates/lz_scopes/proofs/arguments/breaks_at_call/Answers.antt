use Rattle.std.proofs.Common.{◌≡◌, sym, ◌∙◌, drop, arith}
use Rattle.lz_scopes.specs.ExpressionTypes.{first_want, wants_of, further_want}
use Rattle.lz_scopes.proofs.ArgumentsLemmas.{breaks_more}
use Rattle.lz_scopes.proofs.arguments.breaks_at_call.Goals as goal

pub loop-e-preserved : goal.loop-e-preserved
loop-e-preserved c =
    let wanted : c.want_at-want.result ≡ first_want (drop c.loop-e.e-index (wants_of c.args.file.now c.args.callee)) (further_want c.args.callee) =
    rw c.loop-e.invariant.at at c.want_at-want.ensures in
    let at = c.loop-e.invariant.at in
    record {
      at = omega arith;
      left = c.loop-e.invariant.left ∙ breaks_more c.args.file.now c.args.place.now c.args.rule (wants_of c.args.file.now c.args.callee) (further_want c.args.callee)
          c.args.args.now c.loop-e.e-index c.e-item.result c.loop-e-test.true c.e-item.is
          (rw (sym wanted, sym c.misplaced.ensures, sym c.is_broken.ensures) c.if-is_broken.false);
    }
