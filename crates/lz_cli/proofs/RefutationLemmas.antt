-- The formula of a variable that is true and false, and its log.
use Rattle.std.proofs.Common.{◌≡◌, ℕ, zero, suc, ◌<◌, ◌⊎◌, inl, [], ◌∷◌, get_or, refl, arith}
use Rattle.std.specs.List.{Contains}
use Rattle.lz_cnf.specs.declared.clause.Lit.{Lit}
use Rattle.lz_cnf.specs.Models.{negated}
use Rattle.lz_log.specs.Refutation.{Refutes, LeadsToFalse}
use Rattle.lz_cli.specs.Refutation.{positive, negative, both, empty_step}

itself : (k : ℕ) (d : Lit) → k < 1 → (get_or (positive ∷ []) k d ≡ positive) ⊎ Contains [] (get_or (positive ∷ []) k d)
itself zero d h = inl refl
itself (suc k) d h = absurd (omega arith)

now_false : (k : ℕ) (d : Lit) → k < 1 → Contains (negated positive ∷ []) (get_or (negative ∷ []) k d)
now_false zero d h = (0, omega arith, refl)
now_false (suc k) d h = absurd (omega arith)

leads : LeadsToFalse both.clauses [] (1 ∷ 2 ∷ [])
leads = (positive ∷ [], positive, refl, (0, omega arith, refl), λ c. absurd (omega (arith, c.1)), itself, (negative ∷ [], refl, now_false))

pub both_refuted : Refutes both (empty_step ∷ [])
both_refuted = record {
  steps = (record { one_sign = λ k d h. absurd (omega arith); variables = λ k d h. absurd (omega arith); hints = leads }, tt);
  empty = (0, empty_step, omega arith, refl, refl);
}
