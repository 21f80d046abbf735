use Rattle.std.proofs.Common.{◌≡◌, ℕ, inl, inr, sym, ◌∙◌, ap, arith}
use Rattle.std.proofs.lemmas.Bool.{cases_lt}
use Rattle.lz_prop.specs.Trail.{entry_of, value_in}
use Rattle.lz_solve.proofs.choice.first_free.Goals as goal

pub loop-variable-preserved : goal.loop-variable-preserved
loop-variable-preserved c v lt =
    elim (cases_lt v c.loop-variable.variable) [
      | inl below ↦ c.loop-variable.invariant v below
      | inr above ↦
          (let at : c.loop-variable.variable ≡ v = omega arith in
          (c.in-Some.field-0, ap (λ (n : ℕ). value_in (entry_of c.args.trail.now.set n)) (sym at) ∙ sym c.in-Some.ensures))
    ]
