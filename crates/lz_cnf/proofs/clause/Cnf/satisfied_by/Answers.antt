use Rattle.std.proofs.Common.{sym, ◌∙◌, IsTrue, subst, Bool, List, refl}
use Rattle.std.proofs.lemmas.Bool.{false≢true}
use Rattle.std.specs.List.{Any}
use Rattle.lz_cnf.specs.declared.clause.Lit.{Lit}
use Rattle.lz_cnf.specs.Models.{IsTrueLit}
use Rattle.lz_base.proofs.ListLemmas.{all_first, all_more}
use Rattle.lz_cnf.proofs.SatisfiedLemmas.{model_is, no_model}
use Rattle.lz_cnf.proofs.clause.Cnf.satisfied_by.Goals as goal

pub loop-clause-init : goal.loop-clause-init
loop-clause-init c = all_first (λ (clause : List Lit). Any (IsTrueLit c.items-values.result.now) clause) c.items-clause-items.result.now

pub loop-clause-preserved : goal.loop-clause-preserved
loop-clause-preserved c =
    all_more (λ (clause : List Lit). Any (IsTrueLit c.items-values.result.now) clause) c.items-clause-items.result.now c.loop-clause.clause-index c.clause-item.result c.loop-clause.invariant c.loop-clause-test.true
    (subst (λ (clause : List Lit). Any (IsTrueLit c.items-values.result.now) clause) (c.items.ensures ∙ c.clause-item.is)
    (c.has_true.ensures.0 (subst (λ (b : Bool). IsTrue b) (sym c.if-not-has_true.false) refl)))

pub returns-then-not-has_true : goal.returns-then-not-has_true
returns-then-not-has_true c = (
  (λ h. absurd (false≢true h)),
  λ m. absurd
      (no_model c.args.self.now c.args.model.now _ _ _ _ _ c.items-values.ensures c.items-clause-items.ensures c.loop-clause-test.true c.items.ensures c.clause-item.is
      (λ h. false≢true (subst (λ (b : Bool). IsTrue b) c.if-not-has_true.true (c.has_true.ensures.1 h))) m),
)

pub returns : goal.returns
returns c =
    ((λ h. model_is _ _ _ _ _ c.items-values.ensures c.items-clause-items.ensures c.requires.whole c.loop-clause.invariant c.loop-clause-test.false), (λ h. refl))
