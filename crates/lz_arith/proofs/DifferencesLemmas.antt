-- Differences, and words with the other sign.
use Rattle.std.proofs.Common.{◌≡◌, ℕ, ◌+◌, ◌-◌, ◌*◌, ◌^◌, ◌%◌, true, false, cond, List, length, sym, ◌∙◌, ap, subst, arith}
use Rattle.lz_cnf.specs.declared.clause.Lit.{Lit}
use Rattle.lz_gates.specs.Circuits.{Circuit, Assignment, value, IsLit, AreLits, Satisfies, Makes}
use Rattle.lz_gates.proofs.ExtendingLemmas.{makes_then, makes_so, still}
use Rattle.lz_arith.specs.Bits.{bit, word, copies, negations, AreBits}
use Rattle.lz_arith.proofs.ShiftingLemmas.{length-copies, copies_in, word_copies}
use Rattle.lz_arith.proofs.DivideLemmas.{word_negations, length-negations, negations_in}

-- the literals in the other sign are as many, of the same circuit
pub negated_bits : (circuit : Circuit) {n : ℕ} {xs ys : List Lit} → ys ≡ negations xs → AreBits circuit n xs → AreBits circuit n ys
negated_bits circuit {xs} e h = record {
  length = ap (λ (zs : List Lit). length zs) e ∙ length-negations xs ∙ h.length;
  lits = subst (λ (zs : List Lit). AreLits circuit zs) (sym e) (negations_in circuit xs h.lits);
}

-- copies of a literal of the circuit
pub copied_bits : (circuit : Circuit) {n : ℕ} (lit : Lit) {ys : List Lit} → ys ≡ copies n lit → IsLit circuit lit → AreBits circuit n ys
copied_bits circuit {n} lit e h = record {
  length = ap (λ (zs : List Lit). length zs) e ∙ length-copies n lit;
  lits = subst (λ (zs : List Lit). AreLits circuit zs) (sym e) (copies_in circuit n lit h);
}

-- the same number of bits as another list
pub as_long : (circuit : Circuit) {n : ℕ} {xs : List Lit} (ys : List Lit) → AreBits circuit n xs → length ys ≡ n → AreBits circuit (length ys) xs
as_long circuit ys h e = record { length = h.length ∙ sym e; lits = h.lits }

-- the left word, the complement of the right one, and 1
pub subtract_makes : {old new : Circuit} (left right : List Lit) {held : List Lit} (r : List Lit) (on : Lit) {v c : ℕ}
    → ((a : Assignment) → Satisfies a old.clauses → value a on ≡ true) → held ≡ negations right → length right ≡ length left
    → Makes old new v c (λ a. word a r ≡ (word a left + word a held + bit (value a on)) % 2 ^ length left)
    → Makes old new v c (λ a. word a r ≡ (word a left + (2 ^ length left - word a right)) % 2 ^ length left)
subtract_makes {old} {new} left right {held} r on {v} {c} on_true is same h =
    makes_so old new v v c c _ _ h (omega arith) (omega arith)
    (λ a s p.
    let turned : word a held + word a right + 1 ≡ 2 ^ length left = ap (λ (m : ℕ). m + word a right + 1) (ap (word a) is) ∙ word_negations a right ∙ ap (λ (m : ℕ). 2 ^ m) same in
    let one : bit (value a on) ≡ 1 = ap bit (on_true a (still old new h.extends a s)) in
    p ∙ ap (λ (m : ℕ). m % 2 ^ length left) (by (word a left) (word a held) (word a right) (bit (value a on)) (2 ^ length left) turned one))
  where
    by : (l h r o p : ℕ) → h + r + 1 ≡ p → o ≡ 1 → l + h + o ≡ l + (p - r)
    by l h r o p e f = omega arith

-- 0 and the word subtracted
pub minus_makes : {old new : Circuit} (bits : List Lit) {zeros : List Lit} (r : List Lit) (off : Lit)
    → ((a : Assignment) → Satisfies a old.clauses → value a off ≡ false) → zeros ≡ copies (length bits) off
    → Makes old new (3 * length zeros) (14 * length zeros) (λ a. word a r ≡ (word a zeros + (2 ^ length zeros - word a bits)) % 2 ^ length zeros)
    → Makes old new (3 * length bits) (14 * length bits) (λ a. word a r ≡ (2 ^ length bits - word a bits) % 2 ^ length bits)
minus_makes {old} {new} bits {zeros} r off off_false is h =
    let n : ℕ = length bits in
    let long : length zeros ≡ n = ap (λ (zs : List Lit). length zs) is ∙ length-copies n off in
    makes_so old new (3 * length zeros) (3 * n) (14 * length zeros) (14 * n) _ _ h (omega arith) (omega arith)
    (λ a s p.
    let none : word a zeros ≡ 0 = ap (word a) is ∙ word_copies a n off (off_false a (still old new h.extends a s)) in
    p ∙ ap (λ (m : ℕ). (word a zeros + (2 ^ m - word a bits)) % 2 ^ m) long
    ∙ ap (λ (m : ℕ). m % 2 ^ n) (by (word a zeros) (2 ^ n - word a bits) none))
  where
    by : (z x : ℕ) → z ≡ 0 → z + x ≡ x
    by z x e = omega arith

-- a word that was made, or the word itself
pub where_makes : {one two three : Circuit} (bits : List Lit) {minus held : List Lit} (r : List Lit) (test : Lit) (X : Assignment → ℕ) {v c : ℕ}
    → Makes one two v c (λ a. word a minus ≡ X a) → held ≡ minus → length held ≡ length bits
    → Makes two three (length held) (6 * length held) (λ a. word a r ≡ cond (value a test) (word a held) (word a bits))
    → Makes one three (v + length bits) (c + 6 * length bits) (λ a. word a r ≡ cond (value a test) (X a) (word a bits))
where_makes {one} {two} {three} bits {held} r test X {v} {c} h is long k =
    makes_so one three (v + length held) (v + length bits) (c + 6 * length held) (c + 6 * length bits) _ _
    (makes_then one two three v (length held) c (6 * length held) _ _ (λ a. word a r ≡ cond (value a test) (X a) (word a bits)) h k
    (λ a p q. q ∙ ap (λ (m : ℕ). cond (value a test) m (word a bits)) (ap (word a) is ∙ p)))
    (omega arith) (omega arith) (λ a s p. p)
