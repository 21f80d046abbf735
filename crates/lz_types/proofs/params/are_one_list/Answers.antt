use Rattle.std.proofs.Common.{sym, ◌∙◌, arith}
use Rattle.lz_types.proofs.ExternalLemmas.{ones_more, ones_not}
use Rattle.lz_types.proofs.params.are_one_list.Goals as goal

pub loop-p-preserved : goal.loop-p-preserved
loop-p-preserved c =
    let at = c.loop-p.invariant.at in
    record {
      at = omega arith;
      left = c.loop-p.invariant.left
          ∙ ones_more c.args.params.now c.args.others.now c.loop-p.p-index _ c.loop-p-test.true (sym (rw at at c.differs_at.ensures) ∙ c.if-differs_at.false);
    }

pub returns-then-differs_at : goal.returns-then-differs_at
returns-then-differs_at c =
    sym (c.loop-p.invariant.left
    ∙ ones_not c.args.params.now c.args.others.now c.loop-p.p-index _ c.loop-p-test.true (sym (rw c.loop-p.invariant.at at c.differs_at.ensures) ∙ c.if-differs_at.true))
