-- Products, row by row.
use Rattle.std.proofs.Common.{◌≡◌, ℕ, zero, suc, ◌+◌, ◌-◌, ◌*◌, ◌^◌, ◌%◌, ◌<◌, ◌≤◌, Bool, true, false, List, ◌++◌, length, get_or, take, sym, ◌∙◌, ap, arith}
use Rattle.std.proofs.Math.Nat.{add_comm, add-mod, mod-mod, mul-le-mul_left}
use Rattle.std.proofs.lemmas.List.{take_all}
use Rattle.lz_cnf.specs.declared.clause.Lit.{Lit}
use Rattle.lz_cnf.specs.Models.{variable_bound}
use Rattle.lz_gates.specs.Circuits.{Circuit, Assignment, value, AreLits, Satisfies, Makes}
use Rattle.lz_gates.proofs.ExtendingLemmas.{makes_then, makes_so, makes_same, still}
use Rattle.lz_arith.specs.Bits.{bit, word, copies, AreBits}
use Rattle.lz_arith.proofs.WordsLemmas.{word_take, row_more}
use Rattle.lz_arith.proofs.ShiftingLemmas.{word_moved, word_copies}
use Rattle.lz_arith.proofs.AddLemmas.{are_lits_more}

-- the second summand may be taken modulo the modulus first
add_mod_right : (s x p : ℕ) → (s + x % p) % p ≡ (s + x) % p
add_mod_right s x p = add-mod s (x % p) p ∙ ap (λ (m : ℕ). (s % p + m) % p) (mod-mod x p) ∙ sym (add-mod s x p)

-- so may the first
add_mod_left : (s x p : ℕ) → (s % p + x) % p ≡ (s + x) % p
add_mod_left s x p = ap (λ (m : ℕ). m % p) (add_comm (s % p) x) ∙ add_mod_right x s p ∙ ap (λ (m : ℕ). m % p) (add_comm x s)

-- one row adds the left word at its place where its digit is 1
row_step : (d : Bool) (s x p m k o : ℕ) → m ≡ x % p → k ≡ bit d * m → o ≡ 0 → (s + k + o) % p ≡ (s + bit d * x) % p
row_step true s x p m k o e f g = ap (λ (n : ℕ). n % p) (one s k o (x % p) (f ∙ ap (λ (n : ℕ). 1 * n) e) g) ∙ add_mod_right s x p ∙ ap (λ (n : ℕ). n % p) (two s x)
  where
    one : (s k o y : ℕ) → k ≡ 1 * y → o ≡ 0 → s + k + o ≡ s + y
    one s k o y h l = omega arith

    two : (s x : ℕ) → s + x ≡ s + 1 * x
    two s x = omega arith
row_step false s x p m k o e f g = ap (λ (n : ℕ). n % p) (none s k o m x f g)
  where
    none : (s k o m x : ℕ) → k ≡ 0 * m → o ≡ 0 → s + k + o ≡ s + 0 * x
    none s k o m x h l = omega arith

-- the circuits of a row add it to the sum
pub row_makes : {one two three : Circuit} (digit off : Lit) {place : ℕ} (left : List Lit) {moved : List Lit} (masked sum r : List Lit)
    → ((a : Assignment) → Satisfies a one.clauses → value a off ≡ false) → place ≤ length left → moved ≡ copies place off ++ take (length left - place) left → length moved ≡ length left → length sum ≡ length left
    → Makes one two (length moved) (3 * length moved) (λ a. word a masked ≡ bit (value a digit) * word a moved)
    → Makes two three (3 * length sum) (14 * length sum) (λ a. word a r ≡ (word a sum + word a masked + bit (value a off)) % 2 ^ length sum)
    → Makes one three (4 * length left) (17 * length left) (λ a. word a r ≡ (word a sum + bit (value a digit) * (word a left * 2 ^ place)) % 2 ^ length left)
row_makes {one} {two} {three} digit off {place} left {moved} masked sum r off_false le is wide wide_sum h k =
    makes_so one three (length moved + 3 * length sum) (4 * length left) (3 * length moved + 14 * length sum) (17 * length left)
    (λ a. (word a masked ≡ bit (value a digit) * word a moved) × (word a r ≡ (word a sum + word a masked + bit (value a off)) % 2 ^ length sum)) _
    (makes_then one two three (length moved) (3 * length sum) (3 * length moved) (14 * length sum) _ _ _ h k (λ a p q. (p, q)))
    (omega arith) (omega arith)
    (λ a s pq.
    let off_no = off_false a (still one two h.extends a (still two three k.extends a s)) in
    pq.1 ∙ ap (λ (n : ℕ). (word a sum + word a masked + bit (value a off)) % 2 ^ n) wide_sum
    ∙ row_step (value a digit) (word a sum) (word a left * 2 ^ place) (2 ^ length left) (word a moved) (word a masked) (bit (value a off))
    (ap (word a) is ∙ word_moved a off place left off_no le) pq.0 (ap bit off_no))

-- ---- all rows

-- the product with the low bits so far
pub record Multiplies (start now : Circuit) (left right sum : List Lit) (i : ℕ) : Type 0 where
  pub lefts : AreLits now left
  pub rights : AreLits now right
  pub sum_in : AreBits now (length left) sum
  pub made : Makes start now (4 * length left * i) (17 * length left * i) (λ a. word a sum ≡ (word a left * word a (take i right)) % 2 ^ length left)

-- a product with 0 is 0
zero_mod : (l p : ℕ) → 0 ≡ (l * 0) % p
zero_mod l zero = grind arith
zero_mod l (suc p) = grind arith

-- before the first row the sum is 0
pub multiplies_none : (start : Circuit) {left right sum : List Lit} (off : Lit) → AreLits start left → AreLits start right → AreBits start (length left) sum → sum ≡ copies (length left) off
    → ((a : Assignment) → Satisfies a start.clauses → value a off ≡ false) → Multiplies start start left right sum 0
unfolding word
multiplies_none start {left} {sum} off hl hr hs is off_false = record {
  lefts = hl;
  rights = hr;
  sum_in = hs;
  made = makes_so start start 0 (4 * length left * 0) 0 (17 * length left * 0) _ _
      (makes_same start (λ a. word a sum ≡ 0) (λ a s. ap (word a) is ∙ word_copies a (length left) off (off_false a s)))
      (omega arith) (omega arith) (λ a s p. p ∙ zero_mod (word a left) (2 ^ length left));
}

-- one more digit of a product
product_step : (d : Bool) (l r k p s : ℕ) → s ≡ (l * r) % p → (s + bit d * (l * k)) % p ≡ (l * (r + k * bit d)) % p
product_step true l r k p s e = ap (λ (n : ℕ). (n + 1 * (l * k)) % p) e ∙ add_mod_left (l * r) (1 * (l * k)) p ∙ ap (λ (n : ℕ). n % p) (spread l r k)
  where
    spread : (l r k : ℕ) → l * r + 1 * (l * k) ≡ l * (r + k * 1)
    spread l r k = grind arith
product_step false l r k p s e = ap (λ (n : ℕ). (n + 0 * (l * k)) % p) e ∙ add_mod_left (l * r) (0 * (l * k)) p ∙ ap (λ (n : ℕ). n % p) (spread l r k)
  where
    spread : (l r k : ℕ) → l * r + 0 * (l * k) ≡ l * (r + k * 0)
    spread l r k = grind arith

-- one more row multiplies by one more bit
pub multiplies_more : {start now next : Circuit} {left right sum r : List Lit} {i : ℕ} (d : Lit) → Multiplies start now left right sum i → i < length right
    → AreBits next (length left) r
    → Makes now next (4 * length left) (17 * length left) (λ a. word a r ≡ (word a sum + bit (value a (get_or right i d)) * (word a left * 2 ^ i)) % 2 ^ length left)
    → Multiplies start next left right r (i + 1)
multiplies_more {start} {now} {next} {left} {right} {sum} {r} {i} d h lt r_in made = record {
  lefts = are_lits_more now next left made.extends.more h.lefts;
  rights = are_lits_more now next right made.extends.more h.rights;
  sum_in = r_in;
  made = makes_so start next (4 * length left * i + 4 * length left) (4 * length left * (i + 1)) (17 * length left * i + 17 * length left) (17 * length left * (i + 1)) _ _
      (makes_then start now next (4 * length left * i) (4 * length left) (17 * length left * i) (17 * length left) _ _
      (λ a. word a r ≡ (word a left * word a (take (i + 1) right)) % 2 ^ length left) h.made made
      (λ a p q. q ∙ product_step (value a (get_or right i d)) (word a left) (word a (take i right)) (2 ^ i) (2 ^ length left) (word a sum) p
      ∙ ap (λ (n : ℕ). (word a left * n) % 2 ^ length left) (sym (word_take a right i d lt))))
      (row_more (4 * length left) i) (row_more (17 * length left) i) (λ a s p. p);
}

-- after all rows the sum is the product
pub multiplies_all : {start now : Circuit} {left right sum : List Lit} {i : ℕ} → Multiplies start now left right sum i → i ≡ length left → i ≡ length right
    → Makes start now (4 * length left * length left) (17 * length left * length left) (λ a. word a sum ≡ (word a left * word a right) % 2 ^ length left)
multiplies_all {start} {now} {left} {right} {i} h e f =
    makes_so start now (4 * length left * i) (4 * length left * length left) (17 * length left * i) (17 * length left * length left) _ _ h.made
    (mul-le-mul_left (4 * length left) (omega arith)) (mul-le-mul_left (17 * length left) (omega arith))
    (λ a s p. p ∙ ap (λ (xs : List Lit). (word a left * word a xs) % 2 ^ length left) (take_all i right (omega arith)))

-- there is room for one more row
pub rows_room : (n i now start : ℕ) → i < n → now ≤ start + n * 4 * 0 + 4 * n * i → start + 4 * n * n < variable_bound → now + 4 * n < variable_bound
rows_room n i now start lt le room =
    let p = row_more (4 * n) i in
    let q = mul-le-mul_left {m = i + 1} {n = n} (4 * n) (omega arith) in
    omega arith
