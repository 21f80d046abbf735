use Rattle.std.proofs.Common.{subst}
use Rattle.lz_gates.specs.Circuits.{Circuit, IsCircuit}
use Rattle.lz_gates.proofs.HalfChoicesLemmas.{half_no_false, half_yes_false, half_no_true, half_yes_true}
use Rattle.lz_gates.proofs.builder.Builder.open_choice.Goals as goal

pub returns-then-no-eq1-clause-made : goal.returns-then-no-eq1-clause-made
returns-then-no-eq1-clause-made c =
    half_no_false _ _ _ _ (subst (λ (x : Circuit). IsCircuit x) c.self.view_is c.self.invariant) c.if-no-eq1.true c.in_ok-both.ensures.made

pub returns-then-yes-eq1-clause-made : goal.returns-then-yes-eq1-clause-made
returns-then-yes-eq1-clause-made c =
    half_yes_false _ _ _ _ (subst (λ (x : Circuit). IsCircuit x) c.self.view_is c.self.invariant) c.if-yes-eq1.true c.negated.ensures c.in_ok-both-2.ensures.made

pub returns-then-no-eq0-clause-made : goal.returns-then-no-eq0-clause-made
returns-then-no-eq0-clause-made c =
    half_no_true _ _ _ _ (subst (λ (x : Circuit). IsCircuit x) c.self.view_is c.self.invariant) c.if-no-eq0.true c.negated-then-no-eq0.ensures c.negated-then-no-eq0-2.ensures c.in_ok-against.ensures.made

pub returns-then-yes-eq0-clause-made : goal.returns-then-yes-eq0-clause-made
returns-then-yes-eq0-clause-made c =
    half_yes_true _ _ _ _ (subst (λ (x : Circuit). IsCircuit x) c.self.view_is c.self.invariant) c.if-yes-eq0.true c.negated-then-yes-eq0.ensures c.negated-then-yes-eq0-2.ensures c.negated-then-yes-eq0-3.ensures c.in_ok-neither.ensures.made
