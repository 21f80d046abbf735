use Rattle.std.proofs.Common.{IsTrue, subst, Bool}
use Rattle.std.proofs.lemmas.Bool.{false≢true}
use Rattle.lz_cnf.specs.Models.{IsTrueLit}
use Rattle.lz_base.proofs.ListLemmas.{none_first, none_more, none_all}
use Rattle.lz_cnf.proofs.satisfied.has_true.Goals as goal

pub loop-lit-init : goal.loop-lit-init
loop-lit-init c = none_first (IsTrueLit c.args.values.now) c.args.clause.now

pub loop-lit-preserved : goal.loop-lit-preserved
loop-lit-preserved c =
    none_more (IsTrueLit c.args.values.now) c.args.clause.now c.loop-lit.lit-index _ c.loop-lit.invariant c.loop-lit-test.true
    (λ h. false≢true (subst (λ (b : Bool). IsTrue b) c.if-is_true.false (c.is_true.ensures.1 h)))

pub returns : goal.returns
returns c = (
  (λ h. absurd (false≢true h)),
  (λ some. absurd (none_all (IsTrueLit c.args.values.now) c.args.clause.now c.loop-lit.lit-index c.loop-lit.invariant c.loop-lit-test.false some)),
)
