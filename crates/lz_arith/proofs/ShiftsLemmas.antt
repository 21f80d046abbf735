-- Words moved by words, stage by stage.
use Rattle.std.proofs.Common.{◌≡◌, ℕ, ◌+◌, ◌-◌, ◌*◌, ◌^◌, ◌/◌, ◌%◌, ◌<◌, ◌≤◌, Bool, true, false, cond, List, ◌++◌, length, get_or, take, drop, refl, sym, ◌∙◌, ap, subst, arith}
use Rattle.std.proofs.Math.Nat.{div-div-eq-div-mul, div-one, div-le_self, mul-le-mul_left}
use Rattle.std.proofs.Math.Pow.{pow_mono}
use Rattle.std.proofs.lemmas.Nat.{div-mul-add, pow-add}
use Rattle.std.proofs.lemmas.List.{length-append, length-drop, length-take-le, take_all}
use Rattle.std.proofs.lemmas.List.Elements.{All-drop}
use Rattle.lz_cnf.specs.declared.clause.Lit.{Lit}
use Rattle.lz_cnf.specs.Models.{variable_bound}
use Rattle.lz_gates.specs.Circuits.{Circuit, Assignment, value, IsLit, AreLits, Satisfies, Makes}
use Rattle.lz_gates.proofs.ExtendingLemmas.{makes_then, makes_so, makes_same, still}
use Rattle.lz_arith.specs.Bits.{bit, word, copies, AreBits}
use Rattle.lz_arith.specs.Shifts.{moved_up, moved_down}
use Rattle.lz_arith.proofs.WordsLemmas.{word_append, word_take, word_lt, pow_twice, row_more}
use Rattle.lz_arith.proofs.AddLemmas.{are_lits_more}
use Rattle.lz_arith.proofs.ShiftingLemmas.{word_split, word_copies, length-copies, copies_in, append_in, word_moved}
use Rattle.lz_arith.proofs.NumbersLemmas.{word_ones, barrel_step}
use Rattle.lz_arith.proofs.DivideLemmas.{small_mod}

-- ---- down by a fixed number of places

-- the last literals of a list are literals of the circuit
pub drop_in : (circuit : Circuit) (n : ℕ) (xs : List Lit) → AreLits circuit xs → AreLits circuit (drop n xs)
drop_in circuit n xs h = All-drop (IsLit circuit) n xs h

-- a word moved down is a word of the circuit
pub down_bits : (circuit : Circuit) (fill : Lit) {k : ℕ} (xs : List Lit) {ys : List Lit} → IsLit circuit fill → AreLits circuit xs → k ≤ length xs → ys ≡ drop k xs ++ copies k fill → AreBits circuit (length xs) ys
down_bits circuit fill {k} xs h all le is = record {
  length = ap (λ (zs : List Lit). length zs) is ∙ length-append (drop k xs) (copies k fill) ∙ (let p = length-drop k xs in let q = length-copies k fill in omega arith);
  lits = subst (λ (zs : List Lit). AreLits circuit zs) (sym is) (append_in circuit (drop k xs) (copies k fill) (drop_in circuit k xs all) (copies_in circuit k fill h));
}

-- the number of places that were filled, and of those that came down
ones_div : (m p q r d : ℕ) → r < p → m ≡ q + 1 + d → (m * p - 1 - (r + p * q)) / p ≡ d
ones_div m p q r d lt e =
    ap (λ (x : ℕ). x / p) (same (m * p) (p * q) (d * p) p r lt (ap (λ (x : ℕ). x * p) e ∙ spread q d p)) ∙ div-mul-add d p (p - 1 - r) (omega arith)
  where
    spread : (q d p : ℕ) → (q + 1 + d) * p ≡ p * q + p + d * p
    spread q d p = grind arith

    same : (mp pq dp p r : ℕ) → r < p → mp ≡ pq + p + dp → mp - 1 - (r + pq) ≡ dp + (p - 1 - r)
    same mp pq dp p r lt e = omega arith

-- a word moved down and filled with ones, as a number
filled_number : (m p q r d bound w ones : ℕ) → r < p → m ≡ q + 1 + d → bound ≡ m * p → r + p * q ≡ w → ones + 1 ≡ p → q + m * ones ≡ bound - 1 - (bound - 1 - w) / p
filled_number m p q r d bound w ones lt e f g o =
    let down : (bound - 1 - w) / p ≡ d = ap (λ (x : ℕ). (x - 1 - w) / p) f ∙ ap (λ (x : ℕ). (m * p - 1 - x) / p) (sym g) ∙ ones_div m p q r d lt e in
    let scaled : m * ones + m ≡ bound = spread m ones ∙ ap (λ (x : ℕ). m * x) o ∙ sym f in
    omega arith
  where
    spread : (m o : ℕ) → m * o + m ≡ m * (o + 1)
    spread m o = grind arith

-- moved down, filled with the literal above
pub word_down_filled : (a : Assignment) (fill : Lit) (k : ℕ) (xs : List Lit) → k ≤ length xs → word a (drop k xs ++ copies k fill) ≡ moved_down (2 ^ length xs) (value a fill) (word a xs) k
word_down_filled a fill k xs le =
    word_append a (drop k xs) (copies k fill) ∙ ap (λ (n : ℕ). word a (drop k xs) + 2 ^ n * word a (copies k fill)) (length-drop k xs)
    ∙ by (value a fill) refl
  where
    power : 2 ^ length xs ≡ 2 ^ (length xs - k) * 2 ^ k
    power = ap (λ (n : ℕ). 2 ^ n) (let e : length xs ≡ length xs - k + k = omega arith in e) ∙ pow-add 2 (length xs - k) k

    low : word a (take k xs) < 2 ^ k
    low = subst (λ (m : ℕ). word a (take k xs) < 2 ^ m) (length-take-le k xs le) (word_lt a (take k xs))

    high : word a (drop k xs) < 2 ^ (length xs - k)
    high = subst (λ (m : ℕ). word a (drop k xs) < 2 ^ m) (length-drop k xs) (word_lt a (drop k xs))

    plain : (q m : ℕ) → q + m * 0 ≡ q
    plain q m = grind arith

    turn : (q p r : ℕ) → q * p + r ≡ r + p * q
    turn q p r = grind arith

    by : (b : Bool) → value a fill ≡ b → word a (drop k xs) + 2 ^ (length xs - k) * word a (copies k fill) ≡ moved_down (2 ^ length xs) b (word a xs) k
    by true e = filled_number (2 ^ (length xs - k)) (2 ^ k) (word a (drop k xs)) (word a (take k xs)) (2 ^ (length xs - k) - 1 - word a (drop k xs)) (2 ^ length xs) (word a xs) (word a (copies k fill))
        low (omega (arith, high)) power (word_split a k xs le) (word_ones a k fill e)
    by false e =
        ap (λ (x : ℕ). word a (drop k xs) + 2 ^ (length xs - k) * x) (word_copies a k fill e) ∙ plain (word a (drop k xs)) (2 ^ (length xs - k))
        ∙ sym (div-mul-add (word a (drop k xs)) (2 ^ k) (word a (take k xs)) low)
        ∙ ap (λ (x : ℕ). x / 2 ^ k) (turn (word a (drop k xs)) (2 ^ k) (word a (take k xs)) ∙ word_split a k xs le)

-- ---- one move after the other

-- two moves up are one by the sum
pub up_after_up : (bound w j k : ℕ) → moved_up bound (moved_up bound w j) k ≡ moved_up bound w (j + k)
up_after_up bound w j k = barrel_step w j k bound

-- a move up by none changes nothing
pub up_by_none : (bound w : ℕ) → w < bound → moved_up bound w 0 ≡ w
up_by_none bound w lt = ap (λ (m : ℕ). m % bound) (by w) ∙ small_mod w bound lt
  where
    by : (w : ℕ) → w * 1 ≡ w
    by w = omega arith

-- two moves down are one by the sum
pub down_after_down : (bound : ℕ) (f : Bool) (w j k : ℕ) → w < bound → moved_down bound f (moved_down bound f w j) k ≡ moved_down bound f w (j + k)
down_after_down bound true w j k lt =
    ap (λ (m : ℕ). bound - 1 - m / 2 ^ k) (turned (bound - 1) ((bound - 1 - w) / 2 ^ j) (div-le_self (bound - 1 - w) (2 ^ j)) w)
    ∙ ap (λ (m : ℕ). bound - 1 - m) (div-div-eq-div-mul (bound - 1 - w) (2 ^ j) (2 ^ k) ∙ ap (λ (m : ℕ). (bound - 1 - w) / m) (sym (pow-add 2 j k)))
  where
    turned : (top x : ℕ) → x ≤ top - w → (v : ℕ) → top - (top - x) ≡ x
    turned top x le v = omega arith
down_after_down bound false w j k lt = div-div-eq-div-mul w (2 ^ j) (2 ^ k) ∙ ap (λ (m : ℕ). w / m) (sym (pow-add 2 j k))

-- a move down by none changes nothing
pub down_by_none : (bound : ℕ) (f : Bool) (w : ℕ) → w < bound → moved_down bound f w 0 ≡ w
down_by_none bound true w lt = ap (λ (m : ℕ). bound - 1 - m) (div-one (bound - 1 - w)) ∙ turned bound w lt
  where
    turned : (b w : ℕ) → w < b → b - 1 - (b - 1 - w) ≡ w
    turned b w lt = omega arith
down_by_none bound false w lt = div-one w

-- ---- one stage

-- a stage down moves down where its test is true
pub stage_down_makes : {old new : Circuit} (test fill : Lit) {by : ℕ} (bits : List Lit) {held : List Lit} (r : List Lit)
    → by ≤ length bits → held ≡ drop by bits ++ copies by fill → length held ≡ length bits
    → Makes old new (length held) (6 * length held) (λ a. word a r ≡ cond (value a test) (word a held) (word a bits))
    → Makes old new (length bits) (6 * length bits) (λ a. word a r ≡ cond (value a test) (moved_down (2 ^ length bits) (value a fill) (word a bits) by) (word a bits))
stage_down_makes {old} {new} test fill {by} bits {held} r le is long h =
    makes_so old new (length held) (length bits) (6 * length held) (6 * length bits) _ _ h (omega arith) (omega arith)
    (λ a s p. p ∙ ap (λ (m : ℕ). cond (value a test) m (word a bits)) (ap (word a) is ∙ word_down_filled a fill by bits le))

-- a stage up moves up where its test is true
pub stage_up_makes : {old new : Circuit} (test off : Lit) {by : ℕ} (bits : List Lit) {held : List Lit} (r : List Lit)
    → ((a : Assignment) → Satisfies a old.clauses → value a off ≡ false) → by ≤ length bits → held ≡ copies by off ++ take (length bits - by) bits → length held ≡ length bits
    → Makes old new (length held) (6 * length held) (λ a. word a r ≡ cond (value a test) (word a held) (word a bits))
    → Makes old new (length bits) (6 * length bits) (λ a. word a r ≡ cond (value a test) (moved_up (2 ^ length bits) (word a bits) by) (word a bits))
stage_up_makes {old} {new} test off {by} bits {held} r off_false le is long h =
    makes_so old new (length held) (length bits) (6 * length held) (6 * length bits) _ _ h (omega arith) (omega arith)
    (λ a s p. p ∙ ap (λ (m : ℕ). cond (value a test) m (word a bits)) (ap (word a) is ∙ word_moved a off by bits (off_false a (still old new h.extends a s)) le))

-- ---- all stages

-- the word so far is the first one, moved by the front of the amount
pub record Shifts (start now : Circuit) (S : Assignment → ℕ → ℕ → ℕ) (bits amount moved : List Lit) (by i : ℕ) : Type 0 where
  pub amount_in : AreLits now amount
  pub moved_in : AreBits now (length bits) moved
  pub by_is : by ≡ 2 ^ i
  pub made : Makes start now (length bits * i) (6 * length bits * i) (λ a. word a moved ≡ S a (word a bits) (word a (take i amount)))

-- a way to move words: moves follow each other, and none moves nothing
pub record IsMove (S : Assignment → ℕ → ℕ → ℕ) (bound : ℕ) : Type 0 where
  pub then : (a : Assignment) (w j k : ℕ) → w < bound → S a (S a w j) k ≡ S a w (j + k)
  pub none : (a : Assignment) (w : ℕ) → w < bound → S a w 0 ≡ w

-- before the first stage nothing is moved
pub shifts_none : {start : Circuit} (S : Assignment → ℕ → ℕ → ℕ) {bits amount moved : List Lit} → IsMove S (2 ^ length bits) → AreLits start bits → AreLits start amount → moved ≡ bits → Shifts start start S bits amount moved 1 0
unfolding word
shifts_none {start} S {bits} {moved} move h k is = record {
  amount_in = k;
  moved_in = record { length = ap (λ (xs : List Lit). length xs) is; lits = subst (λ (xs : List Lit). AreLits start xs) (sym is) h };
  by_is = refl;
  made = makes_so start start 0 (length bits * 0) 0 (6 * length bits * 0) _ _
      (makes_same start (λ a. word a moved ≡ S a (word a bits) 0) (λ a s. ap (word a) is ∙ sym (move.none a (word a bits) (word_lt a bits))))
      (omega arith) (omega arith) (λ a s p. p);
}

-- one more stage moves by its power where its bit is 1
stage_step : (t : Bool) (S : ℕ → ℕ → ℕ) (r m w k p : ℕ) → r ≡ cond t (S m p) m → m ≡ S w k → S (S w k) p ≡ S w (k + p) → r ≡ S w (k + p * bit t)
stage_step true S r m w k p e f g = e ∙ ap (λ (x : ℕ). S x p) f ∙ g ∙ ap (S w) (by k p)
  where
    by : (k p : ℕ) → k + p ≡ k + p * 1
    by k p = omega arith
stage_step false S r m w k p e f g = e ∙ f ∙ ap (S w) (by k p)
  where
    by : (k p : ℕ) → k ≡ k + p * 0
    by k p = omega arith

-- one more stage is one more bit of the amount
pub shifts_more : (start now next : Circuit) (S : Assignment → ℕ → ℕ → ℕ) (bits amount moved held r : List Lit) (by i : ℕ) (d : Lit) → IsMove S (2 ^ length bits)
    → Shifts start now S bits amount moved by i → i < length amount → held ≡ moved → AreBits next (length held) r
    → Makes now next (length held) (6 * length held) (λ a. word a r ≡ cond (value a (get_or amount i d)) (S a (word a held) by) (word a held))
    → Shifts start next S bits amount r (by * 2) (i + 1)
shifts_more start now next S bits amount moved held r by i d move h lt is r_in made =
    let long : length held ≡ length bits = ap (λ (xs : List Lit). length xs) is ∙ h.moved_in.length in
    record {
      amount_in = are_lits_more now next amount made.extends.more h.amount_in;
      moved_in = record { length = r_in.length ∙ long; lits = r_in.lits };
      by_is = ap (λ (m : ℕ). m * 2) h.by_is ∙ sym (pow_twice i);
      made = makes_so start next (length bits * i + length held) (length bits * (i + 1)) (6 * length bits * i + 6 * length held) (6 * length bits * (i + 1)) _ _
          (makes_then start now next (length bits * i) (length held) (6 * length bits * i) (6 * length held) _ _ (λ a. word a r ≡ S a (word a bits) (word a (take (i + 1) amount))) h.made made
          (λ a p q.
          stage_step (value a (get_or amount i d)) (S a) (word a r) (word a moved) (word a bits) (word a (take i amount)) (2 ^ i)
          (q ∙ ap (λ (xs : List Lit). cond (value a (get_or amount i d)) (S a (word a xs) by) (word a xs)) is
          ∙ ap (λ (m : ℕ). cond (value a (get_or amount i d)) (S a (word a moved) m) (word a moved)) h.by_is)
          p (move.then a (word a bits) (word a (take i amount)) (2 ^ i) (word_lt a bits))
          ∙ ap (S a (word a bits)) (sym (word_take a amount i d lt))))
          (let p = row_more (length bits) i in omega arith) (let p = row_more (6 * length bits) i in omega arith) (λ a s p. p);
    }

-- with the lists that were lent
pub shifts_turn : {start now next : Circuit} (T : ℕ → Assignment → ℕ → ℕ → ℕ) {bits amount moved held r : List Lit} {by i : ℕ} (d : Lit) → IsMove (T (length bits)) (2 ^ length bits)
    → Shifts start now (T (length bits)) bits amount moved by i → i < length amount → held ≡ moved → AreBits next (length held) r
    → Makes now next (length held) (6 * length held) (λ a. word a r ≡ cond (value a (get_or amount i d)) (T (length held) a (word a held) by) (word a held))
    → Shifts start next (T (length bits)) bits amount r (by * 2) (i + 1)
shifts_turn {start} {now} {next} T {bits} {amount} {moved} {held} {r} {by} {i} d move h lt is r_in made =
    shifts_more start now next (T (length bits)) bits amount moved held r by i d move h lt is r_in
    (subst (λ (n : ℕ). Makes now next (length held) (6 * length held) (λ a. word a r ≡ cond (value a (get_or amount i d)) (T n a (word a held) by) (word a held)))
    (ap (λ (xs : List Lit). length xs) is ∙ h.moved_in.length) made)

-- after all stages the word is moved by the amount
pub shifts_all : {start now : Circuit} {S : Assignment → ℕ → ℕ → ℕ} {bits amount moved : List Lit} {by i : ℕ} → Shifts start now S bits amount moved by i → i ≡ length amount
    → Makes start now (length bits * length amount) (6 * length bits * length amount) (λ a. word a moved ≡ S a (word a bits) (word a amount))
shifts_all {start} {now} {S} {bits} {amount} {i} h e =
    makes_so start now (length bits * i) (length bits * length amount) (6 * length bits * i) (6 * length bits * length amount) _ _ h.made
    (mul-le-mul_left (length bits) (omega arith)) (mul-le-mul_left (6 * length bits) (omega arith))
    (λ a s p. p ∙ ap (λ (xs : List Lit). S a (word a bits) (word a xs)) (take_all i amount (omega arith)))

-- a stage fits where all do
pub stage_room : (n k i now start : ℕ) → i < k → now ≤ start + n * i → start + n * k < variable_bound → now + n < variable_bound
stage_room n k i now start lt le room =
    let p = row_more n i in
    let q = mul-le-mul_left {m = i + 1} {n = k} n (omega arith) in
    omega arith

-- each stage moves within the word
pub stage_within : (n k i by : ℕ) → i < k → by ≡ 2 ^ i → 2 ^ k ≤ n → (by ≤ n) × (by * 2 ≤ n)
stage_within n k i by lt e le =
    let p = pow_mono {i = i} {j = k} (omega arith) in
    let q = pow_mono {i = i + 1} {j = k} (omega arith) in
    let t = pow_twice i in
    (omega arith, omega arith)

-- moves up are moves
pub ups_move : (bound : ℕ) → IsMove (λ a. moved_up bound) bound
ups_move bound = record {
  then = λ a w j k lt. up_after_up bound w j k;
  none = λ a w lt. up_by_none bound w lt;
}

-- moves down are moves
pub downs_move : (fill : Lit) (bound : ℕ) → IsMove (λ a. moved_down bound (value a fill)) bound
downs_move fill bound = record {
  then = λ a w j k lt. down_after_down bound (value a fill) w j k lt;
  none = λ a w lt. down_by_none bound (value a fill) w lt;
}
