-- Words with sign: their top bit, their size and their order.
use Rattle.std.proofs.Common.{◌≡◌, ℕ, zero, suc, ◌+◌, ◌-◌, ◌*◌, ◌^◌, ◌/◌, ◌%◌, ◌<◌, ◌≤◌, Bool, true, false, not, cond, ltb, List, [], ◌∷◌, ◌++◌, length, get_or, take, ℤ, pos, negsuc, neg_ℤ, ◌-ℤ◌, refl, sym, ◌∙◌, ap, subst, arith, int_div, int_rem}
use lib.Signed.{lt_z}
use Rattle.std.proofs.Math.Nat.{div-le_self, mod-le}
use Rattle.std.proofs.lemmas.Int.{ints}
use Rattle.std.proofs.lemmas.Bool.Decides.{nat_tests}
use Rattle.std.proofs.lemmas.List.{take_more, take_all, length-take-le, length_push}
use Rattle.std.specs.Int.{int_shr}
use Rattle.lz_base.specs.declared.word.IntType.{IntType}
use Rattle.lz_base.specs.declared.word.IntType.TheVariants.{Int, Unsigned}
use Rattle.lz_base.specs.Words.{value_bound, sign_bound, signed, wrapped}
use Rattle.lz_cnf.specs.declared.clause.Lit.{Lit}
use Rattle.lz_cnf.specs.Models.{negated}
use Rattle.lz_gates.specs.Circuits.{Circuit, Assignment, value, xor, Makes}
use Rattle.lz_gates.proofs.ExtendingLemmas.{makes_so}
use Rattle.lz_gates.proofs.GateLemmas.{value-negated}
use Rattle.lz_arith.specs.Bits.{bit, word, top_flipped, is_negative}
use Rattle.lz_arith.specs.Shifts.{moved_down}
use Rattle.lz_arith.proofs.WordsLemmas.{word_take, word_lt}
use Rattle.lz_arith.proofs.LoopsLemmas.{less_at}
use Rattle.lz_arith.proofs.DivideLemmas.{small_mod}
use Rattle.lz_arith.proofs.NumbersLemmas.{flipped, word_flipped, signed_by, signed_order, signed_by_size, negative, size, size_is, with_sign, quotient_by_sizes, remainder_by_sizes}

-- a word of 32 bits
pub word_small : (a : Assignment) (xs : List Lit) → length xs ≡ 32 → word a xs < value_bound
word_small a xs e = subst (λ (n : ℕ). word a xs < 2 ^ n) e (word_lt a xs)

-- the lower bits and the top one
front_top : (xs : List Lit) (n : ℕ) (d : Lit) → length xs ≡ n + 1 → take n xs ++ get_or xs n d ∷ [] ≡ xs
front_top xs n d e = sym (take_more xs n d (omega arith)) ∙ take_all (n + 1) xs (omega arith)

-- the top bit is true where the word is not below half the range
pub top_is : (a : Assignment) (xs : List Lit) (n : ℕ) (d : Lit) → length xs ≡ n + 1 → value a (get_or xs n d) ≡ negative (2 ^ n) (word a xs)
top_is a xs n d e = by (value a (get_or xs n d)) (word a (take n xs)) (2 ^ n) (less_at a xs n (omega arith)) ∙ ap (negative (2 ^ n)) (sym whole)
  where
    whole : word a xs ≡ word a (take n xs) + 2 ^ n * bit (value a (get_or xs n d))
    whole = ap (word a) (sym (take_all (n + 1) xs (omega arith))) ∙ word_take a xs n d (omega arith)

    by : (b : Bool) (w h : ℕ) → w < h → b ≡ negative h (w + h * bit b)
    by true w h lt = grind (arith, nat_tests)
    by false w h lt = grind (arith, nat_tests)

-- the word with its top bit turned
pub word_top_flipped : (a : Assignment) (xs : List Lit) (n : ℕ) → length xs ≡ n + 1 → word a (top_flipped xs) ≡ flipped (2 ^ n) (word a xs)
word_top_flipped a xs n e =
    ap (λ (m : ℕ). word a (take m xs ++ negated (get_or xs m (record { 0 = 0 })) ∷ [])) low
    ∙ word_flipped a (take n xs) (get_or xs n (record { 0 = 0 })) (negated (get_or xs n (record { 0 = 0 }))) (value-negated a (get_or xs n (record { 0 = 0 })))
    ∙ ap (λ (m : ℕ). flipped (2 ^ m) (word a (take n xs ++ get_or xs n (record { 0 = 0 }) ∷ []))) (length-take-le n xs (omega arith))
    ∙ ap (λ (ys : List Lit). flipped (2 ^ n) (word a ys)) (front_top xs n (record { 0 = 0 }) e)
  where
    low : length xs - 1 ≡ n
    low = omega arith

-- it is as long
pub length-top_flipped : (xs : List Lit) → 0 < length xs → length (top_flipped xs) ≡ length xs
length-top_flipped xs some = length_push (take (length xs - 1) xs) _ ∙ (let p = length-take-le (length xs - 1) xs (omega arith) in omega arith)

-- a number less 2^32 is what lacks to 2^32, below zero
below_zero : (n : ℕ) → n < value_bound → pos n -ℤ pos value_bound ≡ neg_ℤ (pos (value_bound - n))
below_zero n lt = omega (arith, ints)

-- the whole number of a word with sign, by half the range
pub signed_is : (n : ℕ) → n < value_bound → signed Int n ≡ signed_by sign_bound n
signed_is n lt = by (ltb n sign_bound) refl
  where
    by : (b : Bool) → ltb n sign_bound ≡ b → signed Int n ≡ signed_by sign_bound n
    by true e = rw e refl
    by false e = rw e (below_zero n lt)

-- the order without sign of the turned words
pub signed_less_makes : {old new : Circuit} (left right : List Lit) {low high : List Lit} (less : Lit) → length left ≡ 32 → length right ≡ 32 → low ≡ top_flipped left → high ≡ top_flipped right → length low ≡ 32
    → Makes old new (2 * length low) (10 * length low) (λ a. value a less ≡ ltb (word a low) (word a high))
    → Makes old new 64 320 (λ a. value a less ≡ lt_z (signed Int (word a left)) (signed Int (word a right)))
signed_less_makes {old} {new} left right {low} {high} less ll lr e f long h =
    makes_so old new (2 * length low) 64 (10 * length low) 320 _ _ h (omega arith) (omega arith)
    (λ a s p. p
    ∙ ap (λ (m : ℕ). ltb m (word a high)) (ap (word a) e ∙ word_top_flipped a left 31 ll)
    ∙ ap (λ (m : ℕ). ltb (flipped sign_bound (word a left)) m) (ap (word a) f ∙ word_top_flipped a right 31 lr)
    ∙ signed_order sign_bound (word a left) (word a right) (word_small a left ll) (word_small a right lr) (omega arith)
    ∙ ap (λ (z : ℤ). lt_z z (signed_by sign_bound (word a right))) (sym (signed_is (word a left) (word_small a left ll)))
    ∙ ap (λ (z : ℤ). lt_z (signed Int (word a left)) z) (sym (signed_is (word a right) (word_small a right lr))))

-- ---- quotients and remainders

-- a size with its sign, wrapped
wrapped_sign : (b : Bool) (m : ℕ) → m < value_bound → wrapped (with_sign b m) ≡ cond b ((value_bound - m) % value_bound) m
wrapped_sign true zero lt = refl
wrapped_sign true (suc k) lt = by k lt
  where
    by : (k : ℕ) → suc k < value_bound → value_bound - 1 - k % value_bound ≡ (value_bound - suc k) % value_bound
    by k lt = omega arith
wrapped_sign false m lt = small_mod m value_bound lt

-- a number below zero has a size above 0
some_size : (n : ℕ) → n < value_bound → negative sign_bound n ≡ true → 0 < size sign_bound n
some_size n lt e = by (ltb n sign_bound) refl
  where
    by : (b : Bool) → ltb n sign_bound ≡ b → 0 < cond b n (value_bound - n)
    by true f = absurd (let g : not true ≡ true = sym (ap not f) ∙ e in cc)
    by false f = omega arith

-- a number that is not 0 has a size above 0
size_positive : (n : ℕ) → n < value_bound → 0 < n → 0 < size sign_bound n
size_positive n lt some = by (ltb n sign_bound)
  where
    by : (b : Bool) → 0 < cond b n (value_bound - n)
    by true = some
    by false = omega arith

-- no size is above 2^31
size_at_most : (n : ℕ) → n < value_bound → size sign_bound n ≤ sign_bound
size_at_most n lt = by (ltb n sign_bound) refl
  where
    by : (b : Bool) → ltb n sign_bound ≡ b → size sign_bound n ≤ sign_bound
    by true e = grind (arith, nat_tests, e)
    by false e = grind (arith, nat_tests, e)

-- the quotient by sizes, with the sign of both words
pub quotient_number : (l d x y q r : ℕ) (s : Bool) → l < value_bound → d < value_bound → 0 < d
    → x ≡ cond (negative sign_bound l) ((value_bound - l) % value_bound) l → y ≡ cond (negative sign_bound d) ((value_bound - d) % value_bound) d
    → (0 < y → q ≡ x / y) → s ≡ xor (negative sign_bound l) (negative sign_bound d) → r ≡ cond s ((value_bound - q) % value_bound) q
    → r ≡ wrapped (int_div (signed Int l) (signed Int d))
quotient_number l d x y q r s ll ld some ex ey eq es er =
    let sx : x ≡ size sign_bound l = ex ∙ size_is sign_bound l ((value_bound - l) % value_bound) ll refl (omega arith) in
    let sy : y ≡ size sign_bound d = ey ∙ size_is sign_bound d ((value_bound - d) % value_bound) ld refl (omega arith) in
    let some_y : 0 < y = subst (λ (m : ℕ). 0 < m) (sym sy) (size_positive d ld some) in
    let whole : q ≡ size sign_bound l / size sign_bound d = eq some_y ∙ ap (λ (m : ℕ). m / y) sx ∙ ap (λ (m : ℕ). size sign_bound l / m) sy in
    let small : size sign_bound l / size sign_bound d < value_bound = omega (arith, div-le_self (size sign_bound l) (size sign_bound d), size_at_most l ll) in
    er ∙ ap (λ (m : ℕ). cond s ((value_bound - m) % value_bound) m) whole
    ∙ ap (λ (b : Bool). cond b ((value_bound - size sign_bound l / size sign_bound d) % value_bound) (size sign_bound l / size sign_bound d)) es
    ∙ sym (wrapped_sign (xor (negative sign_bound l) (negative sign_bound d)) (size sign_bound l / size sign_bound d) small)
    ∙ ap wrapped (sym (quotient_by_sizes (negative sign_bound l) (negative sign_bound d) (size sign_bound l) (size sign_bound d) (some_size l ll) (some_size d ld)))
    ∙ ap (λ (z : ℤ). wrapped (int_div z (with_sign (negative sign_bound d) (size sign_bound d)))) (sym (signed_is l ll ∙ signed_by_size sign_bound l))
    ∙ ap (λ (z : ℤ). wrapped (int_div (signed Int l) z)) (sym (signed_is d ld ∙ signed_by_size sign_bound d))

-- the remainder by sizes, with the sign of the left word
pub remainder_number : (l d x y q r : ℕ) → l < value_bound → d < value_bound → 0 < d
    → x ≡ cond (negative sign_bound l) ((value_bound - l) % value_bound) l → y ≡ cond (negative sign_bound d) ((value_bound - d) % value_bound) d
    → (0 < y → q ≡ x % y) → r ≡ cond (negative sign_bound l) ((value_bound - q) % value_bound) q
    → r ≡ wrapped (int_rem (signed Int l) (signed Int d))
remainder_number l d x y q r ll ld some ex ey eq er =
    let sx : x ≡ size sign_bound l = ex ∙ size_is sign_bound l ((value_bound - l) % value_bound) ll refl (omega arith) in
    let sy : y ≡ size sign_bound d = ey ∙ size_is sign_bound d ((value_bound - d) % value_bound) ld refl (omega arith) in
    let some_y : 0 < y = subst (λ (m : ℕ). 0 < m) (sym sy) (size_positive d ld some) in
    let whole : q ≡ size sign_bound l % size sign_bound d = eq some_y ∙ ap (λ (m : ℕ). m % y) sx ∙ ap (λ (m : ℕ). size sign_bound l % m) sy in
    let small : size sign_bound l % size sign_bound d < value_bound = omega (arith, mod-le (size sign_bound l) (size sign_bound d), size_at_most l ll) in
    er ∙ ap (λ (m : ℕ). cond (negative sign_bound l) ((value_bound - m) % value_bound) m) whole
    ∙ sym (wrapped_sign (negative sign_bound l) (size sign_bound l % size sign_bound d) small)
    ∙ ap wrapped (sym (remainder_by_sizes (negative sign_bound l) (negative sign_bound d) (size sign_bound l) (size sign_bound d) (some_size l ll) (some_size d ld)))
    ∙ ap (λ (z : ℤ). wrapped (int_rem z (with_sign (negative sign_bound d) (size sign_bound d)))) (sym (signed_is l ll ∙ signed_by_size sign_bound l))
    ∙ ap (λ (z : ℤ). wrapped (int_rem (signed Int l) z)) (sym (signed_is d ld ∙ signed_by_size sign_bound d))

-- ---- shifts

-- a shifted word is a word
low_number : (n k : ℕ) → n < value_bound → n / 2 ^ k < value_bound
low_number n k lt = omega (arith, div-le_self n (2 ^ k))

-- a shift down of a number that is not below zero
pos_shift : (n k : ℕ) → n < value_bound → wrapped (int_shr (pos n) k) ≡ n / 2 ^ k
pos_shift n k lt = small_mod (n / 2 ^ k) value_bound (low_number n k lt)

-- a shift down of a number below zero
negative_shift : (n k : ℕ) → n < value_bound → wrapped (int_shr (pos n -ℤ pos value_bound) k) ≡ value_bound - 1 - (value_bound - 1 - n) / 2 ^ k
negative_shift n k lt =
    ap (λ (z : ℤ). wrapped (int_shr z k)) (let e : pos n -ℤ pos value_bound ≡ negsuc (value_bound - 1 - n) = omega (arith, ints) in e)
    ∙ ap (λ (m : ℕ). value_bound - 1 - m) (small_mod ((value_bound - 1 - n) / 2 ^ k) value_bound (low_number (value_bound - 1 - n) k (omega arith)))

-- a shift to the right, rounded down, moves the word down and fills it with its sign
pub right_shift_number : (t : IntType) (n k : ℕ) → n < value_bound → moved_down value_bound (is_negative t n) n k ≡ wrapped (int_shr (signed t n) k)
right_shift_number Unsigned n k lt = sym (pos_shift n k lt)
right_shift_number Int n k lt = by (ltb n sign_bound) refl
  where
    by : (b : Bool) → ltb n sign_bound ≡ b → moved_down value_bound (is_negative Int n) n k ≡ wrapped (int_shr (signed Int n) k)
    by true e = rw e (sym (pos_shift n k lt))
    by false e = rw e (sym (negative_shift n k lt))
