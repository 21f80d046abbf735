-- Numbers that stop at the greatest of 64 bits.
use Rattle.std.proofs.Common.{◌≡◌, ℕ, zero, suc, ◌+◌, ◌*◌, ◌-◌, ◌^◌, inl, inr, ap, arith}
use Rattle.std.proofs.lemmas.Bool.{cases_lt}
use Rattle.lz_slots.specs.Nesting.{saturated}
use Rattle.lz_slots.specs.CostTable.{turn_number}

-- a product of numbers that stop alike stops alike
pub saturated_product : (k a b : ℕ) → saturated a ≡ saturated b → saturated (k * a) ≡ saturated (k * b)
saturated_product zero a b e = omega arith
saturated_product (suc k) a b e =
    elim (cases_lt a (2 ^ 64 - 1)) [
      | inl low ↦ let same : a ≡ b = omega arith in ap (λ x. saturated (suc k * x)) same
      | inr high ↦ omega arith
    ]

-- a sum of numbers that stop alike stops alike
pub saturated_sum : (a b c d : ℕ) → saturated a ≡ saturated c → saturated b ≡ saturated d → saturated (a + b) ≡ saturated (c + d)
saturated_sum a b c d left right = omega arith

-- what the turns of a loop and its end come to
pub saturated_loop : (turns : ℕ) {test body : ℕ} (exact_test exact_body : ℕ) {parts turn all end result : ℕ} → test ≡ saturated exact_test → body ≡ saturated exact_body → parts ≡ saturated (test + body) → turn ≡ saturated (turn_number + parts) → all ≡ saturated (turns * turn) → end ≡ saturated (turn_number + test) → result ≡ saturated (all + end) → result ≡ saturated (turns * (turn_number + exact_test + exact_body) + turn_number + exact_test)
saturated_loop turns exact_test exact_body {turn} is_test is_body is_parts is_turn is_all is_end is_result =
    let alike : saturated turn ≡ saturated (turn_number + exact_test + exact_body) = omega arith in
    let product = saturated_product turns turn (turn_number + exact_test + exact_body) alike in
    omega (arith, product)
