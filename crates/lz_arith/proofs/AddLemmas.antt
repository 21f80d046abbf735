-- Sums.
use Rattle.std.proofs.Common.{◌≡◌, ℕ, ◌+◌, ◌*◌, ◌^◌, ◌%◌, ◌<◌, ◌≤◌, Bool, true, false, List, [], ◌∷◌, ◌++◌, length, get_or, take, refl, sym, ◌∙◌, ap, subst, arith}
use Rattle.std.proofs.lemmas.List.{length_push, take_all}
use Rattle.std.proofs.lemmas.List.Elements.{All-push}
use Rattle.std.proofs.Math.Nat.{add_comm, mul_comm}
use Rattle.std.proofs.lemmas.Nat.{mod-mul-add}
use Rattle.lz_cnf.specs.declared.clause.Lit.{Lit}
use Rattle.lz_gates.specs.Circuits.{Circuit, value, IsLit, AreLits, Makes, xor, choice}
use Rattle.lz_gates.proofs.ExtendingLemmas.{makes_then, makes_so, makes_same}
use Rattle.lz_arith.specs.Bits.{bit, word, AreBits}
use Rattle.lz_arith.proofs.WordsLemmas.{word_push, word_take, word_lt, pow_twice}

-- ---- one bit

-- two differences and a choice make the sum of three bits
sum_of_three : (x y c d s n : Bool) → d ≡ xor x y → s ≡ xor d c → n ≡ choice d c x → bit s + 2 * bit n ≡ bit x + bit y + bit c
sum_of_three x y c d s n e f g = rw (g, f, e) (three x y c)
  where
    three : (x y c : Bool) → bit (xor (xor x y) c) + 2 * bit (choice (xor x y) c x) ≡ bit x + bit y + bit c
    three true true true = omega arith
    three true true false = omega arith
    three true false true = omega arith
    three true false false = omega arith
    three false true true = omega arith
    three false true false = omega arith
    three false false true = omega arith
    three false false false = omega arith

-- the three gates make a full adder
pub full_add_makes : {one two three four : Circuit} (x y c d s n : Lit)
    → Makes one two 1 4 (λ a. value a d ≡ xor (value a x) (value a y))
    → Makes two three 1 4 (λ a. value a s ≡ xor (value a d) (value a c))
    → Makes three four 1 6 (λ a. value a n ≡ choice (value a d) (value a c) (value a x))
    → Makes one four 3 14 (λ a. bit (value a s) + 2 * bit (value a n) ≡ bit (value a x) + bit (value a y) + bit (value a c))
full_add_makes {one} {two} {three} {four} x y c d s n h k l =
    makes_then one three four 2 1 8 6
    (λ a. (value a d ≡ xor (value a x) (value a y)) × (value a s ≡ xor (value a d) (value a c))) _ _
    (makes_then one two three 1 1 4 4 _ _ _ h k (λ a p q. (p, q)))
    l
    (λ a p q. sum_of_three (value a x) (value a y) (value a c) (value a d) (value a s) (value a n) p.0 p.1 q)

-- ---- all bits

-- the sum of the low bits so far, with what it carries
pub record IsSumSoFar (start now : Circuit) (left right : List Lit) (first carried : Lit) (bits : List Lit) (i : ℕ) : Type 0 where
  pub lefts : AreLits now left
  pub rights : AreLits now right
  pub bits_in : AreBits now i bits
  pub carried_in : IsLit now carried
  pub made : Makes start now (3 * i) (14 * i) (λ a. word a bits + 2 ^ i * bit (value a carried) ≡ word a (take i left) + word a (take i right) + bit (value a first))

-- one more place adds its bits to the sum
sum_step : (w p l r s b n x y f : ℕ) → w + p * f ≡ l + r + b → s + 2 * n ≡ x + y + f → w + p * s + p * 2 * n ≡ l + p * x + (r + p * y) + b
sum_step w p l r s b n x y f h k =
    let e : p * (s + 2 * n) ≡ p * (x + y + f) = ap (λ (m : ℕ). p * m) k in
    grind arith

-- literals of a circuit are literals of a larger one
pub are_lits_more : (old new : Circuit) (lits : List Lit) → old.variables ≤ new.variables → AreLits old lits → AreLits new lits
are_lits_more old new lits le h k d lt = let p = h k d lt in omega (arith, p)

-- before the first place the sum is the carry
pub sum_none : {start : Circuit} {left right : List Lit} {first : Lit} → AreLits start left → AreLits start right → IsLit start first → IsSumSoFar start start left right first first [] 0
unfolding word
sum_none {start} hl hr h = record {
  lefts = hl;
  rights = hr;
  bits_in = record { length = refl; lits = λ k d lt. absurd (omega arith) };
  carried_in = h;
  made = makes_same start _ (λ a s. omega arith);
}

-- one more full adder adds one more place
pub sum_more : {start now next : Circuit} {left right : List Lit} {first carried : Lit} (sum : Lit) {carry : Lit} {bits : List Lit} {i : ℕ} (d e : Lit)
    → IsSumSoFar start now left right first carried bits i → i < length left → i < length right
    → IsLit next sum → IsLit next carry
    → Makes now next 3 14 (λ a. bit (value a sum) + 2 * bit (value a carry) ≡ bit (value a (get_or left i d)) + bit (value a (get_or right i e)) + bit (value a carried))
    → IsSumSoFar start next left right first carry (bits ++ sum ∷ []) (i + 1)
sum_more {start} {now} {next} {left} {right} {first} sum {carry} {bits} {i} d e h lt ltr s_in c_in made = record {
  lefts = are_lits_more now next left made.extends.more h.lefts;
  rights = are_lits_more now next right made.extends.more h.rights;
  bits_in = record {
    length = length_push bits sum ∙ ap (λ (n : ℕ). n + 1) h.bits_in.length;
    lits = All-push (IsLit next) bits sum (are_lits_more now next bits made.extends.more h.bits_in.lits) s_in;
  };
  carried_in = c_in;
  made = makes_so start next (3 * i + 3) (3 * (i + 1)) (14 * i + 14) (14 * (i + 1)) _ _
      (makes_then start now next (3 * i) 3 (14 * i) 14 _ _
      (λ a. word a (bits ++ sum ∷ []) + 2 ^ (i + 1) * bit (value a carry) ≡ word a (take (i + 1) left) + word a (take (i + 1) right) + bit (value a first))
      h.made made
      (λ a p q.
      let wb : word a (bits ++ sum ∷ []) ≡ word a bits + 2 ^ i * bit (value a sum) = word_push a bits sum ∙ ap (λ (n : ℕ). word a bits + 2 ^ n * bit (value a sum)) h.bits_in.length in
      rw (wb, word_take a left i d lt, word_take a right i e ltr, pow_twice i)
      (sum_step (word a bits) (2 ^ i) (word a (take i left)) (word a (take i right)) (bit (value a sum)) (bit (value a first)) (bit (value a carry)) _ _ _ p q)))
      (omega arith) (omega arith) (λ a s p. p);
}

-- a sum without what it carries is the sum modulo 2 to its width
pub sum_mod : (w p t : ℕ) (c : Bool) → w < p → w + p * bit c ≡ t → w ≡ t % p
sum_mod w p t c lt e = sym (ap (λ (n : ℕ). n % p) (sym e ∙ add_comm w (p * bit c) ∙ ap (λ (n : ℕ). n + w) (mul_comm p (bit c))) ∙ mod-mul-add (bit c) p w lt)

-- after all places it is the sum of the words
pub sum_all : {start now : Circuit} {left right : List Lit} {first carried : Lit} {bits : List Lit} {i : ℕ} → IsSumSoFar start now left right first carried bits i → i ≡ length left → i ≡ length right
    → Makes start now (3 * length left) (14 * length left) (λ a. word a bits + 2 ^ length left * bit (value a carried) ≡ word a left + word a right + bit (value a first))
sum_all {start} {now} {left} {right} {first} {carried} {bits} {i} h e f =
    makes_so start now (3 * i) (3 * length left) (14 * i) (14 * length left) _ _ h.made (omega arith) (omega arith)
    (λ a s p.
    let tl : take i left ≡ left = take_all i left (omega arith) in
    let tr : take i right ≡ right = take_all i right (omega arith) in
    ap (λ (n : ℕ). word a bits + 2 ^ n * bit (value a carried)) (sym e) ∙ p ∙ ap (λ (xs : List Lit). word a xs + word a (take i right) + bit (value a first)) tl ∙ ap (λ (xs : List Lit). word a left + word a xs + bit (value a first)) tr)

-- the bits alone are the sum modulo 2 to the width
pub sum_modulo : {start now : Circuit} (left right : List Lit) {bits : List Lit} (first carried : Lit) {v c : ℕ}
    → Makes start now v c (λ a. word a bits + 2 ^ length left * bit (value a carried) ≡ word a left + word a right + bit (value a first)) → AreBits now (length left) bits
    → Makes start now v c (λ a. word a bits ≡ (word a left + word a right + bit (value a first)) % 2 ^ length left)
sum_modulo {start} {now} left right {bits} first carried {v} {c} h in_ =
    makes_so start now v v c c _ _ h (omega arith) (omega arith)
    (λ a s p. sum_mod (word a bits) (2 ^ length left) _ (value a carried) (let q = word_lt a bits in subst (λ (n : ℕ). word a bits < 2 ^ n) in_.length q) p)
