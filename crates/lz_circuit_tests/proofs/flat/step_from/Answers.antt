use Rattle.std.proofs.Common.{◌≡◌, ◌≤◌, ℕ, zero, suc, drop, refl, sym, subst, arith}
use Rattle.lz_flat.specs.Programs.{FlatProgram, code_of}
use Rattle.lz_flat.specs.WellFormed.{BeginsVisible}
use Rattle.lz_circuit_tests.specs.FlatExample.{waiting}
use Rattle.lz_circuit_tests.proofs.flat.step_from.Goals as goal

-- each place of the program but the second is visible or the end
stands : (place : ℕ) → (place ≡ 1 → ⊥) → place ≤ 3 → BeginsVisible (drop place (code_of waiting 0))
stands zero other within = refl
stands (suc zero) other within = absurd (other refl)
stands (suc (suc zero)) other within = refl
stands (suc (suc (suc zero))) other within = tt
stands (suc (suc (suc (suc place)))) other within = absurd (let z : ⊥ = omega arith in z)

pub flat_step-stepped-requires-clause-place : goal.flat_step-stepped-requires-clause-place
flat_step-stepped-requires-clause-place c =
    let P : FlatProgram → Type 0 = λ flat. BeginsVisible (drop c.args.place (code_of flat 0)) in
    subst P (sym c.requires) (stands c.args.place (λ e. let n = c.if-place-eq1.false in omega arith) (omega arith))
