-- What the other circuits come to, on numbers.
use Rattle.std.proofs.Common.{◌≡◌, ℕ, zero, suc, ◌+◌, ◌-◌, ◌*◌, ◌^◌, ◌/◌, ◌%◌, ◌<◌, ◌≤◌, Bool, true, false, not, cond, eqb, ltb, List, [], ◌∷◌, ◌++◌, length, take, drop, refl, sym, ◌∙◌, ap, subst, arith}
use Rattle.std.proofs.Math.Nat.{add_comm, mul_comm, mul_assoc, mod-mod, pow-suc}
use Rattle.std.proofs.lemmas.Nat.{div-mul-add, mul-mod, pow-add}
use Rattle.std.proofs.lemmas.List.{length-take-le}
use Rattle.std.proofs.lemmas.Bool.Decides.{nat_tests}
use lib.IntN.{ℤ, pos, neg_ℤ}
use lib.Signed.{lt_z, quot_z, rem_z}
use Rattle.std.proofs.lemmas.Int.{ints}
use Rattle.lz_cnf.specs.declared.clause.Lit.{Lit}
use Rattle.lz_gates.specs.Circuits.{Assignment, value, xor}
use Rattle.lz_arith.specs.Bits.{bit, word, copies}
use Rattle.lz_arith.proofs.WordsLemmas.{word_push, word_lt}
use Rattle.lz_arith.proofs.ShiftingLemmas.{word_split}
use Rattle.lz_arith.proofs.DivideLemmas.{small_mod}

-- ---- shifts: a stage after the stages before it

-- a factor may be taken modulo the modulus first
mod_times : (x y p : ℕ) → (x % p * y) % p ≡ (x * y) % p
mod_times x y p = mul-mod (x % p) y p ∙ ap (λ (m : ℕ). (m * (y % p)) % p) (mod-mod x p) ∙ sym (mul-mod x y p)

-- two shifts are one by the sum
pub barrel_step : (w c k p : ℕ) → ((w * 2 ^ c) % p * 2 ^ k) % p ≡ (w * 2 ^ (c + k)) % p
barrel_step w c k p = mod_times (w * 2 ^ c) (2 ^ k) p ∙ ap (λ (m : ℕ). m % p) (mul_assoc w (2 ^ c) (2 ^ k) ∙ ap (λ (m : ℕ). w * m) (sym (pow-add 2 c k)))

-- moved down, with 0 above
pub word_down : (a : Assignment) (k : ℕ) (xs : List Lit) → k ≤ length xs → word a (drop k xs) ≡ word a xs / 2 ^ k
word_down a k xs le =
    let low : word a (take k xs) < 2 ^ k = subst (λ (m : ℕ). word a (take k xs) < 2 ^ m) (length-take-le k xs le) (word_lt a (take k xs)) in
    sym (ap (λ (m : ℕ). m / 2 ^ k) (sym (word_split a k xs le) ∙ add_comm (word a (take k xs)) (2 ^ k * word a (drop k xs)) ∙ ap (λ (m : ℕ). m + word a (take k xs)) (mul_comm (2 ^ k) (word a (drop k xs))))
    ∙ div-mul-add (word a (drop k xs)) (2 ^ k) (word a (take k xs)) low)

-- copies of a true literal: all ones
pub word_ones : (a : Assignment) (k : ℕ) (lit : Lit) → value a lit ≡ true → word a (copies k lit) + 1 ≡ 2 ^ k
unfolding word
word_ones a zero lit e = refl
word_ones a (suc k) lit e = let h = word_ones a k lit e in rw (e) (double (word a (copies k lit)) (2 ^ k) (2 ^ suc k) h (twice_power k))
  where
    double : (w p q : ℕ) → w + 1 ≡ p → q ≡ p * 2 → 1 + 2 * w + 1 ≡ q
    double w p q h e = omega arith

    twice_power : (k : ℕ) → 2 ^ suc k ≡ 2 ^ k * 2
    twice_power k = pow-suc 2 k

-- ---- equality: one more bit of the differences

-- one more place of an equality
pub different_step : (x y z : Bool) (d v w p : ℕ) → d < p → v < p → w < p → eqb d 0 ≡ eqb v w → z ≡ xor x y → eqb (d + p * bit z) 0 ≡ eqb (v + p * bit x) (w + p * bit y)
different_step true true z d v w p ld lv lw e f = ap (λ (b : Bool). eqb (d + p * bit b) 0) f ∙ none ∙ e ∙ same
  where
    none : eqb (d + p * 0) 0 ≡ eqb d 0
    none = grind (arith, nat_tests)

    same : eqb v w ≡ eqb (v + p * 1) (w + p * 1)
    same = grind (arith, nat_tests)
different_step true false z d v w p ld lv lw e f = ap (λ (b : Bool). eqb (d + p * bit b) 0) f ∙ apart
  where
    apart : eqb (d + p * 1) 0 ≡ eqb (v + p * 1) (w + p * 0)
    apart = grind (arith, nat_tests)
different_step false true z d v w p ld lv lw e f = ap (λ (b : Bool). eqb (d + p * bit b) 0) f ∙ apart
  where
    apart : eqb (d + p * 1) 0 ≡ eqb (v + p * 0) (w + p * 1)
    apart = grind (arith, nat_tests)
different_step false false z d v w p ld lv lw e f = ap (λ (b : Bool). eqb (d + p * bit b) 0) f ∙ none ∙ e ∙ same
  where
    none : eqb (d + p * 0) 0 ≡ eqb d 0
    none = grind (arith, nat_tests)

    same : eqb v w ≡ eqb (v + p * 0) (w + p * 0)
    same = grind (arith, nat_tests)

-- ---- signs. h is half the range, 2 ^ (width - 1)

-- the top bit in the other sign
abbrev pub flipped : ℕ → ℕ → ℕ
flipped h n = cond (ltb n h) (n + h) (n - h)

-- the word with its top bit in the other sign
pub word_flipped : (a : Assignment) (xs : List Lit) (top : Lit) (not_top : Lit) → value a not_top ≡ not (value a top)
    → word a (xs ++ not_top ∷ []) ≡ flipped (2 ^ length xs) (word a (xs ++ top ∷ []))
word_flipped a xs top not_top e =
    word_push a xs not_top ∙ ap (λ (b : Bool). word a xs + 2 ^ length xs * bit b) e
    ∙ by (value a top) (word a xs) (2 ^ length xs) (word_lt a xs)
    ∙ ap (flipped (2 ^ length xs)) (sym (word_push a xs top))
  where
    by : (b : Bool) (w h : ℕ) → w < h → w + h * bit (not b) ≡ flipped h (w + h * bit b)
    by true w h lt = grind (arith, nat_tests)
    by false w h lt = grind (arith, nat_tests)

-- the size of a word with sign, and whether it is below 0
abbrev pub negative : ℕ → ℕ → Bool
negative h n = not (ltb n h)

-- the absolute value of the number that a word stands for
abbrev pub size : ℕ → ℕ → ℕ
size h n = cond (ltb n h) n (h + h - n)

-- the order of words with sign: by signs, then by sizes
abbrev pub signed_lt : ℕ → ℕ → ℕ → Bool
signed_lt h n m = cond (negative h n) (cond (negative h m) (ltb (size h m) (size h n)) true) (cond (negative h m) false (ltb n m))

-- the order with sign is the order of the words with their top bits flipped
pub flipped_order : (h n m : ℕ) → n < h + h → m < h + h → ltb (flipped h n) (flipped h m) ≡ signed_lt h n m
flipped_order h n m ln lm = grind (arith, nat_tests)

-- a sum with the complement and 1 is the word with the other sign
pub minus_is : (n c p : ℕ) → c + n + 1 ≡ p → 0 < p → (0 + c + 1) % p ≡ (p - n) % p
minus_is n c p e some = ap (λ (m : ℕ). m % p) (let z : 0 + c + 1 ≡ p - n = omega arith in z)

-- the size by a choice on the top bit
pub size_is : (h n m : ℕ) → n < h + h → m ≡ (h + h - n) % (h + h) → 0 < h → cond (negative h n) m n ≡ size h n
size_is h n m lt e some = by (ltb n h) refl
  where
    by : (b : Bool) → ltb n h ≡ b → cond (negative h n) m n ≡ size h n
    by true f = rw f refl
    by false f = rw f (e ∙ small_mod (h + h - n) (h + h) (grind (arith, nat_tests, f)))

-- the value of a word with sign, as a whole number
abbrev pub signed_by : ℕ → ℕ → ℤ
signed_by h n = cond (ltb n h) (pos n) (neg_ℤ (pos (h + h - n)))

-- so on whole numbers
pub signed_order : (h n m : ℕ) → n < h + h → m < h + h → 0 < h → ltb (flipped h n) (flipped h m) ≡ lt_z (signed_by h n) (signed_by h m)
signed_order h n m ln lm pos_h = by (ltb n h) (ltb m h) refl refl
  where
    by : (b c : Bool) → ltb n h ≡ b → ltb m h ≡ c → ltb (flipped h n) (flipped h m) ≡ lt_z (signed_by h n) (signed_by h m)
    by true true e f = rw (e, f) (grind (arith, nat_tests, ints, e, f))
    by true false e f = rw (e, f) (grind (arith, nat_tests, ints, e, f))
    by false true e f = rw (e, f) (grind (arith, nat_tests, ints, e, f))
    by false false e f = rw (e, f) (grind (arith, nat_tests, ints, e, f))

-- a size with its sign
abbrev pub with_sign : Bool → ℕ → ℤ
with_sign true n = neg_ℤ (pos n)
with_sign false n = pos n

-- the quotient rounded toward 0, and its remainder, by sizes and signs
pub quotient_by_sizes : (s t : Bool) (x y : ℕ) → (s ≡ true → 0 < x) → (t ≡ true → 0 < y) → quot_z (with_sign s x) (with_sign t y) ≡ with_sign (xor s t) (x / y)
quotient_by_sizes true true zero y h k = let p = h refl in absurd (omega arith)
quotient_by_sizes true true (suc x) zero h k = let p = k refl in absurd (omega arith)
quotient_by_sizes true true (suc x) (suc y) h k = refl
quotient_by_sizes true false zero y h k = let p = h refl in absurd (omega arith)
quotient_by_sizes true false (suc x) y h k = refl
quotient_by_sizes false true x zero h k = let p = k refl in absurd (omega arith)
quotient_by_sizes false true x (suc y) h k = refl
quotient_by_sizes false false x y h k = refl

-- a remainder is that of the sizes, with the sign of the left side
pub remainder_by_sizes : (s t : Bool) (x y : ℕ) → (s ≡ true → 0 < x) → (t ≡ true → 0 < y) → rem_z (with_sign s x) (with_sign t y) ≡ with_sign s (x % y)
remainder_by_sizes true true zero y h k = let p = h refl in absurd (omega arith)
remainder_by_sizes true true (suc x) zero h k = let p = k refl in absurd (omega arith)
remainder_by_sizes true true (suc x) (suc y) h k = refl
remainder_by_sizes true false zero y h k = let p = h refl in absurd (omega arith)
remainder_by_sizes true false (suc x) y h k = refl
remainder_by_sizes false true x zero h k = let p = k refl in absurd (omega arith)
remainder_by_sizes false true x (suc y) h k = refl
remainder_by_sizes false false x y h k = refl

-- a number with sign is its size with its sign
pub signed_by_size : (h n : ℕ) → signed_by h n ≡ with_sign (negative h n) (size h n)
signed_by_size h n = by (ltb n h) refl
  where
    by : (b : Bool) → ltb n h ≡ b → signed_by h n ≡ with_sign (negative h n) (size h n)
    by true e = rw e refl
    by false e = rw e refl
