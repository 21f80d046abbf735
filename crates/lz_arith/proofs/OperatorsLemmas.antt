-- The circuits of the operators of the language, at 32 bits.
use Rattle.std.proofs.Common.{◌≡◌, ℕ, zero, suc, ◌+◌, ◌-◌, ◌*◌, ◌^◌, ◌%◌, ◌<◌, Bool, true, false, not, cond, eqb, List, ◌∷◌, length, get_or, take, refl, sym, ◌∙◌, ap, subst, arith, Result, Ok, Err, OnOk, IfOk}
use Rattle.std.specs.Int.{int_shr}
use Rattle.std.proofs.Math.Bool.{not-not}
use Rattle.lz_base.specs.declared.word.IntType.{IntType}
use Rattle.lz_base.specs.Words.{value_bound, signed, wrapped, truth, is_true}
use Rattle.lz_cnf.specs.declared.clause.Lit.{Lit}
use Rattle.lz_cnf.specs.Models.{variable_of, negated}
use Rattle.lz_gates.specs.Circuits.{Circuit, Assignment, value, IsLit, AreLits, Satisfies, Makes}
use Rattle.lz_gates.proofs.ExtendingLemmas.{makes_then, makes_so, makes_same, still}
use Rattle.lz_gates.proofs.GateLemmas.{value-negated}
use Rattle.lz_arith.specs.Bits.{bit, word, copies, negations, is_negative, AreBits}
use Rattle.lz_arith.specs.Shifts.{moved_up, moved_down}
use Rattle.lz_arith.proofs.ShiftingLemmas.{word_copies, length-copies, copies_in, word_front}
use Rattle.lz_arith.proofs.DivideLemmas.{word_negations}
use Rattle.lz_arith.proofs.SignsLemmas.{word_small, right_shift_number}

-- the word of a truth value
pub truth_makes : {circuit : Circuit} {lit : Lit} (off : Lit) (n : ℕ) {above r : List Lit} → ((a : Assignment) → Satisfies a circuit.clauses → value a off ≡ false)
    → above ≡ copies n off → r ≡ lit ∷ above → Makes circuit circuit 0 0 (λ a. word a r ≡ truth (value a lit))
unfolding word
truth_makes {circuit} {lit} off n {r} off_false e f =
    makes_same circuit (λ a. word a r ≡ truth (value a lit))
    (λ a s. ap (word a) f ∙ ap (λ (m : ℕ). bit (value a lit) + 2 * m) (ap (word a) e ∙ word_copies a n off (off_false a s)) ∙ plain (bit (value a lit)))
  where
    plain : (b : ℕ) → b + 2 * 0 ≡ b
    plain b = omega arith

-- a literal with false ones above is a word
pub truth_bits : (circuit : Circuit) (lit off : Lit) (n : ℕ) (above r : List Lit) → IsLit circuit lit → IsLit circuit off → above ≡ copies n off → r ≡ lit ∷ above → AreBits circuit (n + 1) r
truth_bits circuit lit off n above r h k e f = record {
  length = ap (λ (xs : List Lit). length xs) f ∙ ap suc (ap (λ (xs : List Lit). length xs) e ∙ length-copies n off) ∙ one n;
  lits = subst (λ (xs : List Lit). AreLits circuit xs) (sym (f ∙ ap (λ (xs : List Lit). lit ∷ xs) e)) first;
}
  where
    one : (n : ℕ) → suc n ≡ n + 1
    one n = omega arith

    first : (j : ℕ) (d : Lit) → j < length (lit ∷ copies n off) → variable_of (get_or (lit ∷ copies n off) j d) < circuit.variables
    first zero d lt = h
    first (suc j) d lt = copies_in circuit n off k j d (omega arith)

-- a truth value that was made, as a word
pub truth_of : {one two : Circuit} (lit : Lit) (r : List Lit) (X : Assignment → Bool) {v c : ℕ} → Makes one two v c (λ a. value a lit ≡ X a)
    → Makes two two 0 0 (λ a. word a r ≡ truth (value a lit)) → Makes one two v c (λ a. word a r ≡ truth (X a))
truth_of {one} {two} lit r X {v} {c} h k =
    makes_so one two (v + 0) v (c + 0) c _ _
    (makes_then one two two v 0 c 0 _ _ (λ a. word a r ≡ truth (X a)) h k (λ a p q. q ∙ ap truth p))
    (omega arith) (omega arith) (λ a s p. p)

-- and in the other sign where it is turned
pub turned_of : {one two : Circuit} (lit : Lit) {own : Lit} (turned : Bool) (X : Assignment → Bool) {v c : ℕ} → own ≡ cond turned (negated lit) lit
    → Makes one two v c (λ a. value a lit ≡ X a) → Makes one two v c (λ a. value a own ≡ cond turned (not (X a)) (X a))
turned_of {one} {two} lit turned X {v} {c} e h =
    makes_so one two v v c c _ _ h (omega arith) (omega arith) (λ a s p. ap (value a) e ∙ by turned a ∙ ap (λ (b : Bool). cond turned (not b) b) p)
  where
    by : (t : Bool) (a : Assignment) → value a (cond t (negated lit) lit) ≡ cond t (not (value a lit)) (value a lit)
    by true a = value-negated a lit
    by false a = refl

-- the opposite of the opposite
-- a difference, turned so that it says whether two words are equal
pub equal_of : {one two : Circuit} (lit : Lit) {own : Lit} (turned : Bool) (E : Assignment → Bool) {v c : ℕ} → own ≡ cond (not turned) (negated lit) lit
    → Makes one two v c (λ a. value a lit ≡ not (E a)) → Makes one two v c (λ a. value a own ≡ cond turned (not (E a)) (E a))
equal_of {one} {two} lit turned E {v} {c} e h =
    makes_so one two v v c c _ _ (turned_of lit (not turned) (λ a. not (E a)) e h) (omega arith) (omega arith) (λ a s p. p ∙ by turned (E a))
  where
    by : (t x : Bool) → cond (not t) (not (not x)) (not x) ≡ cond t (not x) x
    by true x = refl
    by false x = not-not x

-- the truth test in the other sign
pub not_makes : {one two : Circuit} (bits r : List Lit) (test : Lit) {own : Lit} → length bits ≡ 32 → own ≡ negated test
    → Makes one two 1 (length bits + 1) (λ a. value a test ≡ not (eqb (word a bits) 0))
    → Makes two two 0 0 (λ a. word a r ≡ truth (value a own)) → Makes one two 1 33 (λ a. word a r ≡ truth (eqb (word a bits) 0))
not_makes {one} {two} bits r test {own} long e h k =
    truth_of own r (λ a. eqb (word a bits) 0)
    (makes_so one two 1 1 (length bits + 1) 33 _ _ h (omega arith) (omega arith) (λ a s p. ap (value a) e ∙ value-negated a test ∙ ap not p ∙ not-not (eqb (word a bits) 0)))
    k

-- the same word
pub same_makes : {circuit : Circuit} {bits r : List Lit} → r ≡ bits → Makes circuit circuit 0 0 (λ a. word a r ≡ word a bits)
same_makes {circuit} {bits} {r} e = makes_same circuit (λ a. word a r ≡ word a bits) (λ a s. ap (word a) e)

-- each bit turned
pub inverted_makes : {circuit : Circuit} (bits : List Lit) {r : List Lit} → length bits ≡ 32 → r ≡ negations bits → Makes circuit circuit 0 0 (λ a. word a r ≡ value_bound - 1 - word a bits)
inverted_makes {circuit} bits {r} long e =
    makes_same circuit (λ a. word a r ≡ value_bound - 1 - word a bits)
    (λ a s. ap (word a) e ∙ by (word a (negations bits)) (word a bits) (word_negations a bits ∙ ap (λ (n : ℕ). 2 ^ n) long))
  where
    by : (c w : ℕ) → c + w + 1 ≡ value_bound → c ≡ value_bound - 1 - w
    by c w e = omega arith

-- the sum without a carry
pub sum_makes : {old new : Circuit} (left right r : List Lit) (off : Lit) → ((a : Assignment) → Satisfies a old.clauses → value a off ≡ false) → length left ≡ 32
    → Makes old new (3 * length left) (14 * length left) (λ a. word a r ≡ (word a left + word a right + bit (value a off)) % 2 ^ length left)
    → Makes old new 96 448 (λ a. word a r ≡ (word a left + word a right) % 2 ^ 32)
sum_makes {old} {new} left right r off off_false long h =
    makes_so old new (3 * length left) 96 (14 * length left) 448 _ _ h (omega arith) (omega arith)
    (λ a s p. p ∙ ap (λ (n : ℕ). (word a left + word a right + bit (value a off)) % 2 ^ n) long
    ∙ ap (λ (b : Bool). (word a left + word a right + bit b) % 2 ^ 32) (off_false a (still old new h.extends a s)) ∙ ap (λ (m : ℕ). m % 2 ^ 32) (by (word a left + word a right)))
  where
    by : (m : ℕ) → m + 0 ≡ m
    by m = omega arith

-- two truth tests and a gate
pub tests_make : {one two three four : Circuit} (left right r : List Lit) (first second lit : Lit) (G : Bool → Bool → Bool) → length left ≡ 32 → length right ≡ 32
    → Makes one two 1 (length left + 1) (λ a. value a first ≡ not (eqb (word a left) 0))
    → Makes two three 1 (length right + 1) (λ a. value a second ≡ not (eqb (word a right) 0))
    → Makes three four 1 3 (λ a. value a lit ≡ G (value a first) (value a second))
    → Makes four four 0 0 (λ a. word a r ≡ truth (value a lit))
    → Makes one four 3 69 (λ a. word a r ≡ truth (G (is_true (word a left)) (is_true (word a right))))
tests_make {one} {two} {three} {four} left right r first second lit G ll lr h k l m =
    truth_of lit r (λ a. G (is_true (word a left)) (is_true (word a right)))
    (makes_so one four (1 + 1 + 1) 3 (length left + 1 + (length right + 1) + 3) 69 _ _
    (makes_then one three four (1 + 1) 1 (length left + 1 + (length right + 1)) 3
    (λ a. (value a first ≡ not (eqb (word a left) 0)) × (value a second ≡ not (eqb (word a right) 0))) _
    (λ a. value a lit ≡ G (is_true (word a left)) (is_true (word a right)))
    (makes_then one two three 1 1 (length left + 1) (length right + 1) _ _ _ h k (λ a p q. (p, q))) l
    (λ a p q. q ∙ ap (λ (b : Bool). G b (value a second)) p.0 ∙ ap (λ (b : Bool). G (is_true (word a left)) b) p.1))
    (omega arith) (omega arith) (λ a s p. p))
    m

-- the lowest five bits are the word modulo 32
amount_is : (a : Assignment) (right amount : List Lit) → length right ≡ 32 → amount ≡ take 5 right → word a amount ≡ word a right % 32
amount_is a right amount long e = ap (word a) e ∙ word_front a 5 right (omega arith)

-- the barrel up makes a left shift
pub left_shift_makes : {old new : Circuit} (left right : List Lit) {amount : List Lit} (r : List Lit) → length left ≡ 32 → length right ≡ 32 → amount ≡ take 5 right → length amount ≡ 5
    → Makes old new (length left * length amount) (6 * length left * length amount) (λ a. word a r ≡ moved_up (2 ^ length left) (word a left) (word a amount))
    → Makes old new 160 960 (λ a. word a r ≡ (word a left * 2 ^ (word a right % 32)) % value_bound)
left_shift_makes {old} {new} left right {amount} r ll lr e five h =
    makes_so old new (length left * length amount) 160 (6 * length left * length amount) 960 _ _ h (rw (ll, five) (omega arith)) (rw (ll, five) (omega arith))
    (λ a s p. p ∙ ap (λ (n : ℕ). (word a left * 2 ^ word a amount) % 2 ^ n) ll ∙ ap (λ (k : ℕ). (word a left * 2 ^ k) % value_bound) (amount_is a right amount lr e))

-- the barrel down, filled by the sign, makes a right shift
pub right_shift_makes : {old new : Circuit} (t : IntType) (left right : List Lit) {amount : List Lit} (r : List Lit) (fill : Lit) → length left ≡ 32 → length right ≡ 32 → amount ≡ take 5 right → length amount ≡ 5
    → ((a : Assignment) → Satisfies a old.clauses → value a fill ≡ is_negative t (word a left))
    → Makes old new (length left * length amount) (6 * length left * length amount) (λ a. word a r ≡ moved_down (2 ^ length left) (value a fill) (word a left) (word a amount))
    → Makes old new 160 960 (λ a. word a r ≡ wrapped (int_shr (signed t (word a left)) (word a right % 32)))
right_shift_makes {old} {new} t left right {amount} r fill ll lr e five filled h =
    makes_so old new (length left * length amount) 160 (6 * length left * length amount) 960 _ _ h (rw (ll, five) (omega arith)) (rw (ll, five) (omega arith))
    (λ a s p. p ∙ ap (λ (n : ℕ). moved_down (2 ^ n) (value a fill) (word a left) (word a amount)) ll
    ∙ ap (λ (b : Bool). moved_down value_bound b (word a left) (word a amount)) (filled a (still old new h.extends a s))
    ∙ ap (λ (k : ℕ). moved_down value_bound (is_negative t (word a left)) (word a left) k) (amount_is a right amount lr e)
    ∙ right_shift_number t (word a left) (word a right % 32) (word_small a left ll))

-- a copy, where there was memory for it
pub settled_makes : {E : Type 0} (circuit new : Circuit) (bits : List Lit) (outcome : Result (List Lit) E) → OnOk outcome (new ≡ circuit) → IfOk outcome (λ r. r ≡ bits)
    → IfOk outcome (λ r. Makes circuit new 0 0 (λ a. word a r ≡ word a bits))
settled_makes circuit new bits (Ok r) e f = subst (λ (x : Circuit). Makes circuit x 0 0 (λ a. word a r ≡ word a bits)) (sym e) (same_makes f)
settled_makes circuit new bits (Err x) e f = tt
