-- Words bit by bit.
use Rattle.std.proofs.Common.{◌≡◌, ℕ, zero, suc, ◌+◌, ◌*◌, ◌/◌, ◌%◌, ◌^◌, ◌<◌, Bool, true, false, not, ◌&&◌, ◌||◌, eqb, List, [], ◌∷◌, ◌++◌, length, get_or, take, refl, sym, ◌∙◌, ap, subst, arith, bit_and, bit_or, bit_xor}
use Rattle.std.proofs.lemmas.Nat.{and_block, or_block, xor_block, xor_shr, xor_mod}
use Rattle.std.proofs.lemmas.List.{take_all, length_push}
use Rattle.std.proofs.lemmas.List.Elements.{All-push}
use Rattle.std.specs.Int.Bits.{xor_self}
use Rattle.std.proofs.Math.Nat.{pow-suc}
use Rattle.std.proofs.lemmas.Bool.{eqb-true, eqb-false}
use Rattle.lz_cnf.specs.declared.clause.Lit.{Lit}
use Rattle.lz_cnf.specs.Models.{negated}
use Rattle.lz_gates.specs.Circuits.{Circuit, value, xor, IsLit, AreLits, Makes}
use Rattle.lz_gates.proofs.ExtendingLemmas.{makes_so, makes_then, makes_same}
use Rattle.lz_gates.proofs.GateLemmas.{value-negated}
use Rattle.lz_arith.specs.declared.bitwise.Bitwise.{Bitwise}
use Rattle.lz_arith.specs.declared.bitwise.Bitwise.TheVariants.{And, Xor, Or}
use Rattle.lz_arith.specs.Bits.{bit, word, AreBits}
use Rattle.lz_arith.specs.Bitwise.{bitwise_value, bitwise_number}
use Rattle.lz_arith.proofs.WordsLemmas.{word_take, word_lt}
use Rattle.lz_arith.proofs.LoopsLemmas.{push_at, less_at}
use Rattle.lz_arith.proofs.AddLemmas.{are_lits_more}

-- neither of two literals, in the other sign
pub or_makes : {old new : Circuit} (left right : Lit) {no_left no_right : Lit} (neither : Lit) {some : Lit} → no_left ≡ negated left → no_right ≡ negated right → some ≡ negated neither
    → Makes old new 1 3 (λ a. value a neither ≡ (value a no_left && value a no_right)) → Makes old new 1 3 (λ a. value a some ≡ (value a left || value a right))
or_makes {old} {new} left right {no_right} neither e f g h =
    makes_so old new 1 1 3 3 _ _ h (omega arith) (omega arith)
    (λ a s p. ap (value a) g ∙ value-negated a neither
    ∙ ap not (p ∙ ap (λ (l : Lit). value a l && value a no_right) e ∙ ap (λ (l : Lit). value a (negated left) && value a l) f
    ∙ ap (λ (b : Bool). b && value a (negated right)) (value-negated a left) ∙ ap (λ (b : Bool). not (value a left) && b) (value-negated a right))
    ∙ by (value a left) (value a right))
  where
    by : (x y : Bool) → not (not x && not y) ≡ (x || y)
    by true true = refl
    by true false = refl
    by false true = refl
    by false false = refl

-- what a turn of the loop keeps
pub record Combines (start now : Circuit) (kind : Bitwise) (left right bits : List Lit) (i : ℕ) : Type 0 where
  pub lefts : AreLits now left
  pub rights : AreLits now right
  pub bits_in : AreBits now i bits
  pub made : Makes start now i (4 * i) (λ a. word a bits ≡ bitwise_number kind (word a (take i left)) (word a (take i right)))

-- a bit on top of a number, written the other way round
swap : (p l : ℕ) (x : Bool) → l + p * bit x ≡ bit x * p + l
swap p l x = grind arith

-- the conjunction of two bits, as numbers
and_bits : (x y : Bool) → bit_and (bit x) (bit y) ≡ bit (x && y)
and_bits true true = refl
and_bits true false = refl
and_bits false true = refl
and_bits false false = refl

-- the difference of two bits, as numbers
xor_bits : (x y : Bool) → bit_xor (bit x) (bit y) ≡ bit (xor x y)
xor_bits true true = refl
xor_bits true false = refl
xor_bits false true = refl
xor_bits false false = refl

-- the disjunction of two bits, as numbers
or_bits : (x y : Bool) → bit_or (bit x) (bit y) ≡ bit (x || y)
or_bits true true = refl
or_bits true false = refl
or_bits false true = refl
or_bits false false = refl

-- one more bit of each word
bitwise_step : (kind : Bitwise) (i : ℕ) (x y z : Bool) (w l r : ℕ) → l < 2 ^ i → r < 2 ^ i → w ≡ bitwise_number kind l r → z ≡ bitwise_value kind x y
    → w + 2 ^ i * bit z ≡ bitwise_number kind (l + 2 ^ i * bit x) (r + 2 ^ i * bit y)
bitwise_step And i x y z w l r ll lr e f =
    rw (e, f) (sym (ap (λ (m : ℕ). bit_and m (r + 2 ^ i * bit y)) (swap (2 ^ i) l x) ∙ ap (λ (m : ℕ). bit_and (bit x * 2 ^ i + l) m) (swap (2 ^ i) r y)
    ∙ and_block i (bit x) (bit y) l r ll lr ∙ ap (λ (m : ℕ). m * 2 ^ i + bit_and l r) (and_bits x y) ∙ sym (swap (2 ^ i) (bit_and l r) (x && y))))
bitwise_step Xor i x y z w l r ll lr e f =
    rw (e, f) (sym (ap (λ (m : ℕ). bit_xor m (r + 2 ^ i * bit y)) (swap (2 ^ i) l x) ∙ ap (λ (m : ℕ). bit_xor (bit x * 2 ^ i + l) m) (swap (2 ^ i) r y)
    ∙ xor_block i (bit x) (bit y) l r ll lr ∙ ap (λ (m : ℕ). m * 2 ^ i + bit_xor l r) (xor_bits x y) ∙ sym (swap (2 ^ i) (bit_xor l r) (xor x y))))
bitwise_step Or i x y z w l r ll lr e f =
    rw (e, f) (sym (ap (λ (m : ℕ). bit_or m (r + 2 ^ i * bit y)) (swap (2 ^ i) l x) ∙ ap (λ (m : ℕ). bit_or (bit x * 2 ^ i + l) m) (swap (2 ^ i) r y)
    ∙ or_block i (bit x) (bit y) l r ll lr ∙ ap (λ (m : ℕ). m * 2 ^ i + bit_or l r) (or_bits x y) ∙ sym (swap (2 ^ i) (bit_or l r) (x || y))))

-- of no bits each operator makes 0
none_number : (kind : Bitwise) → 0 ≡ bitwise_number kind 0 0
none_number And = refl
none_number Xor = refl
none_number Or = refl

-- before the first place nothing is combined
pub bitwise_none : (start : Circuit) (kind : Bitwise) (left right : List Lit) → AreLits start left → AreLits start right → Combines start start kind left right [] 0
unfolding word
bitwise_none start kind left right hl hr = record {
  lefts = hl;
  rights = hr;
  bits_in = record { length = refl; lits = λ k d lt. absurd (omega arith) };
  made = makes_same start _ (λ a s. none_number kind);
}

-- one more gate combines one more place
pub bitwise_more : {start now next : Circuit} {kind : Bitwise} {left right : List Lit} (lit : Lit) {i : ℕ} {bits : List Lit} (d e : Lit)
    → Combines start now kind left right bits i → i < length left → i < length right → IsLit next lit
    → Makes now next 1 4 (λ a. value a lit ≡ bitwise_value kind (value a (get_or left i d)) (value a (get_or right i e)))
    → Combines start next kind left right (bits ++ lit ∷ []) (i + 1)
bitwise_more {start} {now} {next} {kind} {left} {right} lit {i} {bits} d e h lt ltr lit_in made = record {
  lefts = are_lits_more now next left made.extends.more h.lefts;
  rights = are_lits_more now next right made.extends.more h.rights;
  bits_in = record {
    length = length_push bits lit ∙ ap (λ (n : ℕ). n + 1) h.bits_in.length;
    lits = All-push (IsLit next) bits lit (are_lits_more now next bits made.extends.more h.bits_in.lits) lit_in;
  };
  made = makes_so start next (i + 1) (i + 1) (4 * i + 4) (4 * (i + 1)) _ _
      (makes_then start now next i 1 (4 * i) 4 _ _ (λ a. word a (bits ++ lit ∷ []) ≡ bitwise_number kind (word a (take (i + 1) left)) (word a (take (i + 1) right))) h.made made
      (λ a p q. rw (push_at a bits lit i h.bits_in.length, word_take a left i d lt, word_take a right i e ltr)
      (bitwise_step kind i (value a (get_or left i d)) (value a (get_or right i e)) (value a lit) (word a bits) (word a (take i left)) (word a (take i right))
      (less_at a left i (omega arith)) (less_at a right i (omega arith)) p q)))
      (omega arith) (omega arith) (λ a s p. p);
}

-- after all places the words are combined
pub bitwise_all : {start now : Circuit} {kind : Bitwise} {left right : List Lit} {i : ℕ} {bits : List Lit}
    → Combines start now kind left right bits i → i ≡ length left → i ≡ length right
    → Makes start now (length left) (4 * length left) (λ a. word a bits ≡ bitwise_number kind (word a left) (word a right))
bitwise_all {start} {now} {kind} {left} {right} {i} h e f =
    makes_so start now i (length left) (4 * i) (4 * length left) _ _ h.made (omega arith) (omega arith)
    (λ a s p. p ∙ ap (λ (xs : List Lit). bitwise_number kind (word a xs) (word a (take i right))) (take_all i left (omega arith)) ∙ ap (λ (xs : List Lit). bitwise_number kind (word a left) (word a xs)) (take_all i right (omega arith)))

-- ---- two numbers are equal where no bit differs

-- two bits that do not differ are equal
small_same : (x y : ℕ) → x < 2 → y < 2 → bit_xor x y ≡ 0 → x ≡ y
small_same zero zero lx ly e = refl
small_same zero (suc zero) lx ly e = absurd cc
small_same (suc zero) zero lx ly e = absurd cc
small_same (suc zero) (suc zero) lx ly e = refl
small_same (suc (suc x)) y lx ly e = absurd (omega arith)
small_same zero (suc (suc y)) lx ly e = absurd (omega arith)
small_same (suc zero) (suc (suc y)) lx ly e = absurd (omega arith)

-- two numbers of so many bits of which none differs are equal
no_bit_differs : (n x y : ℕ) → x < 2 ^ n → y < 2 ^ n → bit_xor x y ≡ 0 → x ≡ y
no_bit_differs zero x y lx ly e = omega arith
no_bit_differs (suc n) x y lx ly e =
    let p : 2 ^ suc n ≡ 2 ^ n * 2 = twice_power n in
    let high : bit_xor (x / 2 ^ 1) (y / 2 ^ 1) ≡ 0 = sym (xor_shr x y 1) ∙ ap (λ (m : ℕ). m / 2 ^ 1) e in
    let low : bit_xor (x % 2 ^ 1) (y % 2 ^ 1) ≡ 0 = sym (xor_mod x y 1) ∙ ap (λ (m : ℕ). m % 2 ^ 1) e in
    let halves : x / 2 ≡ y / 2 = no_bit_differs n (x / 2) (y / 2) (omega arith) (omega arith) high in
    let rests : x % 2 ≡ y % 2 = small_same (x % 2) (y % 2) (omega arith) (omega arith) low in
    omega arith
  where
    twice_power : (k : ℕ) → 2 ^ suc k ≡ 2 ^ k * 2
    twice_power k = pow-suc 2 k

-- two numbers that differ are not equal
apart : (x y : ℕ) → (x ≡ y → ⊥) → eqb x y ≡ false
apart x y h = by (eqb x y) refl
  where
    by : (b : Bool) → eqb x y ≡ b → eqb x y ≡ false
    by true e = absurd (h (eqb-true x y e))
    by false e = e

-- two numbers differ exactly where some bit does
differ_test : (n x y : ℕ) → x < 2 ^ n → y < 2 ^ n → not (eqb (bit_xor x y) 0) ≡ not (eqb x y)
differ_test n x y lx ly = ap not (by (eqb x y) refl)
  where
    by : (b : Bool) → eqb x y ≡ b → eqb (bit_xor x y) 0 ≡ b
    by true e = ap (λ (m : ℕ). eqb m 0) (ap (λ (m : ℕ). bit_xor m y) (eqb-true x y e) ∙ xor_self y)
    by false e = apart (bit_xor x y) 0 (λ z. eqb-false x y e (no_bit_differs n x y lx ly z))

-- the truth test of the difference bit by bit
pub differ_makes : {one two three : Circuit} (left right : List Lit) {bits held : List Lit} (test : Lit) {n : ℕ}
    → length left ≡ n → length right ≡ n → held ≡ bits → length held ≡ n
    → Makes one two n (4 * n) (λ a. word a bits ≡ bit_xor (word a left) (word a right))
    → Makes two three 1 (length held + 1) (λ a. value a test ≡ not (eqb (word a held) 0))
    → Makes one three (n + 1) (5 * n + 1) (λ a. value a test ≡ not (eqb (word a left) (word a right)))
differ_makes {one} {two} {three} left right {held} test {n} ll lr is long h k =
    makes_so one three (n + 1) (n + 1) (4 * n + (length held + 1)) (5 * n + 1) _ _
    (makes_then one two three n 1 (4 * n) (length held + 1) _ _ (λ a. value a test ≡ not (eqb (word a left) (word a right))) h k
    (λ a p q. q ∙ ap (λ (m : ℕ). not (eqb m 0)) (ap (word a) is ∙ p)
    ∙ differ_test n (word a left) (word a right) (subst (λ (m : ℕ). word a left < 2 ^ m) ll (word_lt a left)) (subst (λ (m : ℕ). word a right < 2 ^ m) lr (word_lt a right))))
    (omega arith) (omega arith) (λ a s p. p)
