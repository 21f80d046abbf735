-- Quotients and remainders of words of 32 bits.
use Rattle.std.proofs.Common.{◌≡◌, ℕ, ◌+◌, ◌-◌, ◌*◌, ◌^◌, ◌/◌, ◌%◌, ◌<◌, Bool, true, false, not, cond, eqb, List, length, get_or, refl, sym, ◌∙◌, ap, subst, arith, int_div, int_rem}
use Rattle.std.proofs.Math.Nat.{div-le_self, mod-le}
use Rattle.std.proofs.lemmas.Bool.{eqb-false}
use Rattle.lz_base.specs.declared.word.IntType.TheVariants.{Int, Unsigned}
use Rattle.lz_base.specs.Words.{value_bound, sign_bound, signed, wrapped}
use Rattle.lz_cnf.specs.declared.clause.Lit.{Lit}
use Rattle.lz_gates.specs.Circuits.{Circuit, Assignment, value, xor, Makes}
use Rattle.lz_gates.proofs.ExtendingLemmas.{makes_then, makes_so}
use Rattle.lz_arith.specs.Bits.{bit, word}
use Rattle.lz_arith.specs.Sizes.{division_variables, division_clauses}
use Rattle.lz_arith.proofs.DivideLemmas.{small_mod}
use Rattle.lz_arith.proofs.NumbersLemmas.{negative}
use Rattle.lz_arith.proofs.SignsLemmas.{word_small, top_is, quotient_number, remainder_number}

-- without sign
pub plain_quotient_makes : {old new : Circuit} (left divisor q r : List Lit) → length left ≡ 32
    → Makes old new ((4 * length left + 3) * length left) ((20 * length left + 14) * length left)
    (λ a. 0 < word a divisor → (word a q ≡ word a left / word a divisor) × (word a r ≡ word a left % word a divisor))
    → Makes old new division_variables division_clauses (λ a. 0 < word a divisor → word a q ≡ wrapped (int_div (signed Unsigned (word a left)) (signed Unsigned (word a divisor))))
plain_quotient_makes {old} {new} left divisor q r e h =
    makes_so old new ((4 * length left + 3) * length left) division_variables ((20 * length left + 14) * length left) division_clauses _ _ h (rw e (omega arith)) (rw e (omega arith))
    (λ a s p some. (p some).0 ∙ sym (small_mod (word a left / word a divisor) value_bound (omega (arith, div-le_self (word a left) (word a divisor), word_small a left e))))

-- without sign the rest is the remainder
pub plain_remainder_makes : {old new : Circuit} (left divisor q r : List Lit) → length left ≡ 32
    → Makes old new ((4 * length left + 3) * length left) ((20 * length left + 14) * length left)
    (λ a. 0 < word a divisor → (word a q ≡ word a left / word a divisor) × (word a r ≡ word a left % word a divisor))
    → Makes old new division_variables division_clauses (λ a. 0 < word a divisor → word a r ≡ wrapped (int_rem (signed Unsigned (word a left)) (signed Unsigned (word a divisor))))
plain_remainder_makes {old} {new} left divisor q r e h =
    makes_so old new ((4 * length left + 3) * length left) division_variables ((20 * length left + 14) * length left) division_clauses _ _ h (rw e (omega arith)) (rw e (omega arith))
    (λ a s p some. (p some).1 ∙ sym (small_mod (word a left % word a divisor) value_bound (omega (arith, mod-le (word a left) (word a divisor), word_small a left e))))

-- what the word with the other sign where the literal is true says, at 32 bits
abbrev pub Turned : Lit → List Lit → List Lit → Assignment → Type 0
Turned test bits r a = word a r ≡ cond (value a test) ((value_bound - word a bits) % value_bound) (word a bits)

-- a word that is turned where a literal is true
turned_makes : (old new : Circuit) (test : Lit) (bits r : List Lit) → length bits ≡ 32
    → Makes old new (4 * length bits) (20 * length bits) (λ a. word a r ≡ cond (value a test) ((2 ^ length bits - word a bits) % 2 ^ length bits) (word a bits))
    → Makes old new 128 640 (Turned test bits r)
turned_makes old new test bits r e h =
    makes_so old new (4 * length bits) 128 (20 * length bits) 640 _ _ h (omega arith) (omega arith)
    (λ a s p. subst (λ (n : ℕ). word a r ≡ cond (value a test) ((2 ^ n - word a bits) % 2 ^ n) (word a bits)) e p)

-- quotient and rest of the sizes
divided_makes : (old new : Circuit) (size by held_size held_by q r : List Lit) → held_size ≡ size → held_by ≡ by → length held_size ≡ 32
    → Makes old new ((4 * length held_size + 3) * length held_size) ((20 * length held_size + 14) * length held_size)
    (λ a. 0 < word a held_by → (word a q ≡ word a held_size / word a held_by) × (word a r ≡ word a held_size % word a held_by))
    → Makes old new 4192 20928 (λ a. 0 < word a by → (word a q ≡ word a size / word a by) × (word a r ≡ word a size % word a by))
divided_makes old new size by held_size held_by q r e f long h =
    makes_so old new ((4 * length held_size + 3) * length held_size) 4192 ((20 * length held_size + 14) * length held_size) 20928 _ _ h (rw long (omega arith)) (rw long (omega arith))
    (λ a s p. subst (λ (ys : List Lit). 0 < word a ys → (word a q ≡ word a size / word a ys) × (word a r ≡ word a size % word a ys)) f
    (subst (λ (xs : List Lit). 0 < word a held_by → (word a q ≡ word a xs / word a held_by) × (word a r ≡ word a xs % word a held_by)) e p))

-- by sizes, with the sign of both
pub signed_quotient_makes : {one two three four five six : Circuit} (left divisor : List Lit) {size by held_size held_by q : List Lit} (rest : List Lit) {held : List Lit} (r : List Lit) (sign d e : Lit)
    → length left ≡ 32 → length divisor ≡ 32 → held_size ≡ size → held_by ≡ by → length held_size ≡ 32 → held ≡ q → length held ≡ 32
    → Makes one two (4 * length left) (20 * length left) (λ a. word a size ≡ cond (value a (get_or left 31 d)) ((2 ^ length left - word a left) % 2 ^ length left) (word a left))
    → Makes two three (4 * length divisor) (20 * length divisor) (λ a. word a by ≡ cond (value a (get_or divisor 31 e)) ((2 ^ length divisor - word a divisor) % 2 ^ length divisor) (word a divisor))
    → Makes three four ((4 * length held_size + 3) * length held_size) ((20 * length held_size + 14) * length held_size)
    (λ a. 0 < word a held_by → (word a q ≡ word a held_size / word a held_by) × (word a rest ≡ word a held_size % word a held_by))
    → Makes four five 1 4 (λ a. value a sign ≡ xor (value a (get_or left 31 d)) (value a (get_or divisor 31 e)))
    → Makes five six (4 * length held) (20 * length held) (λ a. word a r ≡ cond (value a sign) ((2 ^ length held - word a held) % 2 ^ length held) (word a held))
    → Makes one six division_variables division_clauses (λ a. 0 < word a divisor → word a r ≡ wrapped (int_div (signed Int (word a left)) (signed Int (word a divisor))))
signed_quotient_makes {one} {two} {three} {four} {five} {six} left divisor {size} {by} {held_size} {held_by} {q} rest {held} r sign d e ll ld hs hb hl hq lq h k l m n =
    makes_so one six (128 + 128 + 4192 + 1 + 128) division_variables (640 + 640 + 20928 + 4 + 640) division_clauses _ _
    (makes_then one five six (128 + 128 + 4192 + 1) 128 (640 + 640 + 20928 + 4) 640 _ _
    (λ a. Sizes a × (0 < word a by → (word a q ≡ word a size / word a by) × (word a rest ≡ word a size % word a by)) × (value a sign ≡ xor (value a (get_or left 31 d)) (value a (get_or divisor 31 e))) × Turned sign held r a)
    (makes_then one four five (128 + 128 + 4192) 1 (640 + 640 + 20928) 4 _ _
    (λ a. Sizes a × (0 < word a by → (word a q ≡ word a size / word a by) × (word a rest ≡ word a size % word a by)) × (value a sign ≡ xor (value a (get_or left 31 d)) (value a (get_or divisor 31 e))))
    (makes_then one three four (128 + 128) 4192 (640 + 640) 20928 _ _
    (λ a. Sizes a × (0 < word a by → (word a q ≡ word a size / word a by) × (word a rest ≡ word a size % word a by)))
    (makes_then one two three 128 128 640 640 _ _ Sizes (turned_makes one two (get_or left 31 d) left size ll h) (turned_makes two three (get_or divisor 31 e) divisor by ld k) (λ a p q. (p, q)))
    (divided_makes three four size by held_size held_by q rest hs hb hl l) (λ a p q. (p, q)))
    m (λ a p q. (p.0, p.1, q)))
    (turned_makes five six sign held r lq n) (λ a p q. (p.0, p.1, p.2, q)))
    (omega arith) (omega arith)
    (λ a s p some.
    let tl = top_is a left 31 d ll in
    let td = top_is a divisor 31 e ld in
    quotient_number (word a left) (word a divisor) (word a size) (word a by) (word a q) (word a r) (value a sign) (word_small a left ll) (word_small a divisor ld) some
    (subst (λ (b : Bool). word a size ≡ cond b ((value_bound - word a left) % value_bound) (word a left)) tl p.0.0)
    (subst (λ (b : Bool). word a by ≡ cond b ((value_bound - word a divisor) % value_bound) (word a divisor)) td p.0.1)
    (λ pos_by. (p.1 pos_by).0)
    (p.2 ∙ ap (λ (b : Bool). xor b (value a (get_or divisor 31 e))) tl ∙ ap (λ (b : Bool). xor (negative sign_bound (word a left)) b) td)
    (subst (λ (xs : List Lit). word a r ≡ cond (value a sign) ((value_bound - word a xs) % value_bound) (word a xs)) hq p.3))
  where
    Sizes : Assignment → Type 0
    Sizes a = Turned (get_or left 31 d) left size a × Turned (get_or divisor 31 e) divisor by a

-- by sizes, with the sign of the left word
pub signed_remainder_makes : {one two three four five : Circuit} (left divisor : List Lit) {size by held_size held_by : List Lit} (q : List Lit) {rest held : List Lit} (r : List Lit) (d e : Lit)
    → length left ≡ 32 → length divisor ≡ 32 → held_size ≡ size → held_by ≡ by → length held_size ≡ 32 → held ≡ rest → length held ≡ 32
    → Makes one two (4 * length left) (20 * length left) (λ a. word a size ≡ cond (value a (get_or left 31 d)) ((2 ^ length left - word a left) % 2 ^ length left) (word a left))
    → Makes two three (4 * length divisor) (20 * length divisor) (λ a. word a by ≡ cond (value a (get_or divisor 31 e)) ((2 ^ length divisor - word a divisor) % 2 ^ length divisor) (word a divisor))
    → Makes three four ((4 * length held_size + 3) * length held_size) ((20 * length held_size + 14) * length held_size)
    (λ a. 0 < word a held_by → (word a q ≡ word a held_size / word a held_by) × (word a rest ≡ word a held_size % word a held_by))
    → Makes four five (4 * length held) (20 * length held) (λ a. word a r ≡ cond (value a (get_or left 31 d)) ((2 ^ length held - word a held) % 2 ^ length held) (word a held))
    → Makes one five division_variables division_clauses (λ a. 0 < word a divisor → word a r ≡ wrapped (int_rem (signed Int (word a left)) (signed Int (word a divisor))))
signed_remainder_makes {one} {two} {three} {four} {five} left divisor {size} {by} {held_size} {held_by} q {rest} {held} r d e ll ld hs hb hl hq lq h k l n =
    makes_so one five (128 + 128 + 4192 + 128) division_variables (640 + 640 + 20928 + 640) division_clauses _ _
    (makes_then one four five (128 + 128 + 4192) 128 (640 + 640 + 20928) 640 _ _
    (λ a. Turned (get_or left 31 d) left size a × Turned (get_or divisor 31 e) divisor by a × (0 < word a by → (word a q ≡ word a size / word a by) × (word a rest ≡ word a size % word a by)) × Turned (get_or left 31 d) held r a)
    (makes_then one three four (128 + 128) 4192 (640 + 640) 20928 _ _
    (λ a. Turned (get_or left 31 d) left size a × Turned (get_or divisor 31 e) divisor by a × (0 < word a by → (word a q ≡ word a size / word a by) × (word a rest ≡ word a size % word a by)))
    (makes_then one two three 128 128 640 640 _ _ (λ a. Turned (get_or left 31 d) left size a × Turned (get_or divisor 31 e) divisor by a)
    (turned_makes one two (get_or left 31 d) left size ll h) (turned_makes two three (get_or divisor 31 e) divisor by ld k) (λ a p q. (p, q)))
    (divided_makes three four size by held_size held_by q rest hs hb hl l) (λ a p q. (p.0, p.1, q)))
    (turned_makes four five (get_or left 31 d) held r lq n) (λ a p q. (p.0, p.1, p.2, q)))
    (omega arith) (omega arith)
    (λ a s p some.
    let tl = top_is a left 31 d ll in
    let td = top_is a divisor 31 e ld in
    remainder_number (word a left) (word a divisor) (word a size) (word a by) (word a rest) (word a r) (word_small a left ll) (word_small a divisor ld) some
    (subst (λ (b : Bool). word a size ≡ cond b ((value_bound - word a left) % value_bound) (word a left)) tl p.0)
    (subst (λ (b : Bool). word a by ≡ cond b ((value_bound - word a divisor) % value_bound) (word a divisor)) td p.1)
    (λ pos_by. (p.2 pos_by).1)
    (subst (λ (b : Bool). word a r ≡ cond b ((value_bound - word a rest) % value_bound) (word a rest)) tl
    (subst (λ (xs : List Lit). word a r ≡ cond (value a (get_or left 31 d)) ((value_bound - word a xs) % value_bound) (word a xs)) hq p.3)))

-- the word where the divisor is not 0
pub unless_zero_makes : {one two three : Circuit} (divisor bits r : List Lit) (test : Lit) → length divisor ≡ 32 → length bits ≡ 32
    → Makes one two 1 (length divisor + 1) (λ a. value a test ≡ not (eqb (word a divisor) 0))
    → Makes two three (length bits) (3 * length bits) (λ a. word a r ≡ bit (value a test) * word a bits)
    → Makes one three 33 129 (λ a. word a r ≡ cond (eqb (word a divisor) 0) 0 (word a bits))
unless_zero_makes {one} {two} {three} divisor bits r test ld lb h k =
    makes_so one three (1 + length bits) 33 (length divisor + 1 + 3 * length bits) 129 _ _
    (makes_then one two three 1 (length bits) (length divisor + 1) (3 * length bits) _ _ (λ a. word a r ≡ cond (eqb (word a divisor) 0) 0 (word a bits)) h k
    (λ a p q. q ∙ ap (λ (b : Bool). bit b * word a bits) p ∙ by (eqb (word a divisor) 0) (word a bits)))
    (omega arith) (omega arith) (λ a s p. p)
  where
    by : (z : Bool) (w : ℕ) → bit (not z) * w ≡ cond z 0 w
    by true w = omega arith
    by false w = omega arith

-- and 0 where it is 0
pub masked_makes : {one two three : Circuit} (divisor : List Lit) {bits held : List Lit} (r : List Lit) (W : Assignment → ℕ) → held ≡ bits
    → Makes one two division_variables division_clauses (λ a. 0 < word a divisor → word a bits ≡ W a)
    → Makes two three 33 129 (λ a. word a r ≡ cond (eqb (word a divisor) 0) 0 (word a held))
    → Makes one three 4610 22981 (λ a. word a r ≡ cond (eqb (word a divisor) 0) 0 (W a))
masked_makes {one} {two} {three} divisor {bits} r W e h k =
    makes_then one two three division_variables 33 division_clauses 129 _ _ (λ a. word a r ≡ cond (eqb (word a divisor) 0) 0 (W a)) h k
    (λ a p q. q ∙ ap (λ (xs : List Lit). cond (eqb (word a divisor) 0) 0 (word a xs)) e ∙ by (word a divisor) (word a bits) (W a) p)
  where
    by : (d w v : ℕ) → (0 < d → w ≡ v) → cond (eqb d 0) 0 w ≡ cond (eqb d 0) 0 v
    by d w v h = either (eqb d 0) refl
      where
        either : (b : Bool) → eqb d 0 ≡ b → cond b 0 w ≡ cond b 0 v
        either true e = refl
        either false e = h (let apart = eqb-false d 0 e in omega (arith, apart))
