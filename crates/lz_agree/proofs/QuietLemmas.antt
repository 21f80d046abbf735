-- Code that does nothing but Loc.
use Rattle.std.proofs.Common.{◌≡◌, ℕ, inl, inr, [], ◌∷◌, ◌++◌, refl, sym, ◌∙◌, subst}
use Rattle.lz_model.specs.declared.actions.Action.TheVariants.{Loc}
use Rattle.lz_model.specs.Behaviours.{Behaviour, ends_with, updates, tells, ◌and_then◌}
use Rattle.lz_model.specs.CodeTraces.{at}
use Rattle.lz_agree.specs.Correspondence.{Quiet}
use Rattle.lz_agree.proofs.ActsLemmas.{but_loc_flip, but_loc_same, but_loc_trans, but_loc_joined}
use Rattle.lz_agree.proofs.SimulatedLemmas.{goes}

module _ {S A : Type 0} where
  -- a value
  pub quiet_value : {a : A} {s : S} → Quiet (ends_with a) s a s
  quiet_value = record {
    opens = record { is = refl };
    can = ([], but_loc_same refl, record { is = (refl, refl, refl) });
    cuts = λ acts e. but_loc_same (sym e.is);
    leaves = λ acts w e. e.is;
    ends = λ acts s' a' e. (but_loc_same (sym e.is.0), e.is.1, e.is.2);
  }

  -- one Loc, which may change local values
  pub quiet_loc : {line : ℕ} {a : A} {f : S → S} {s : S} → Quiet (updates (at line Loc) f a) s a (f s)
  quiet_loc {line} = record {
    opens = record { is = inl refl };
    can = (at line Loc ∷ [], record { same = refl }, record { is = (refl, refl, refl) });
    cuts = λ acts e. elim e.is [ inl n ↦ but_loc_same (sym n) | inr o ↦ but_loc_flip (but_loc_trans (but_loc_same o) (record { same = refl })) ];
    leaves = λ acts w e. e.is;
    ends = λ acts s' a' e. (but_loc_flip (but_loc_trans (but_loc_same e.is.0) (record { same = refl })), e.is.1, e.is.2);
  }

  -- one Loc, whose value the local values give
  pub quiet_tells : {line : ℕ} {f : S → A} {s : S} {v : A} → f s ≡ v → Quiet (tells (at line Loc) f) s v s
  quiet_tells {line} eq = record {
    opens = record { is = inl refl };
    can = (at line Loc ∷ [], record { same = refl }, record { is = (refl, refl, sym eq) });
    cuts = λ acts e. elim e.is [ inl n ↦ but_loc_same (sym n) | inr o ↦ but_loc_flip (but_loc_trans (but_loc_same o) (record { same = refl })) ];
    leaves = λ acts w e. e.is;
    ends = λ acts s' a' e. (but_loc_flip (but_loc_trans (but_loc_same e.is.0) (record { same = refl })), e.is.1, e.is.2 ∙ eq);
  }

module _ {S A B : Type 0} where
  -- quiet parts make quiet code
  pub quiet_then : {P : Behaviour S A} {s : S} {a : A} {s' : S} {next : A → Behaviour S B} {b : B} {s'' : S} →
      Quiet P s a s' → Quiet (next a) s' b s'' → Quiet (P and_then next) s b s''
  quiet_then {P} {s} {a} {s'} {next} {b} {s''} p q = record {
    opens = record { is = inl p.opens };
    can = (p.can.0 ++ q.can.0, but_loc_joined refl p.can.1 q.can.1, record { is = goes a s' p.can.0 q.can.0 p.can.2 q.can.2 });
    cuts = λ acts e. elim e.is [
      | inl c ↦ p.cuts acts c
      | inr g ↦ (let k = p.ends g.front g.middle g.value g.starts in but_loc_flip (but_loc_joined g.joined (but_loc_flip k.0) (but_loc_flip ((moved_ g.value g.middle k.2 k.1).cuts g.rest g.goes))))
    ];
    leaves = λ acts w e. elim e.is [
      | inl c ↦ p.leaves acts w c
      | inr g ↦ (let k = p.ends g.front g.middle g.value g.starts in (moved_ g.value g.middle k.2 k.1).leaves g.rest w g.goes)
    ];
    ends = λ acts t v e. let g = e.is in let k = p.ends g.front g.middle g.value g.starts in let r = (moved_ g.value g.middle k.2 k.1).ends g.rest t v g.goes in
        (but_loc_flip (but_loc_joined g.joined (but_loc_flip k.0) (but_loc_flip r.0)), r.1, r.2);
  }
    where
      moved_ : (x : A) (m : S) → x ≡ a → m ≡ s' → Quiet (next x) m b s''
      moved_ x m e f = subst (λ z. Quiet (next z) m b s'') (sym e) (subst (λ z. Quiet (next a) z b s'') (sym f) q)
