-- Long division, one digit a step.
use Rattle.std.proofs.Common.{◌≡◌, ℕ, zero, suc, ◌+◌, ◌-◌, ◌*◌, ◌^◌, ◌/◌, ◌%◌, ◌<◌, ◌≤◌, Bool, true, false, not, cond, List, [], ◌∷◌, ◌++◌, length, get_or, take, drop, refl, sym, ◌∙◌, ap, subst, arith, add-one}
use Rattle.std.proofs.lemmas.List.{length_push, drop_all}
use Rattle.std.proofs.Math.Nat.{pow-suc, mul-le-mul_left}
use Rattle.std.proofs.Math.Seq.{drop-cons}
use Rattle.std.proofs.lemmas.Nat.{mod-mul-add, div-mul-add}
use Rattle.lz_cnf.specs.declared.clause.Lit.{Lit}
use Rattle.lz_cnf.specs.Models.{variable_of, negated, variable_bound}
use Rattle.lz_gates.specs.Circuits.{Circuit, Assignment, value, IsLit, AreLits, Satisfies, Makes}
use Rattle.lz_gates.proofs.ExtendingLemmas.{makes_then, makes_so, makes_same, still}
use Rattle.lz_gates.proofs.GateLemmas.{value-negated, variable_of-negated}
use Rattle.lz_arith.specs.Bits.{bit, word, copies, negations, AreBits}
use Rattle.lz_arith.proofs.WordsLemmas.{word_push, word_lt, pow_twice, bit_le, row_more}
use Rattle.lz_arith.proofs.ShiftingLemmas.{word_front, append_in, word_copies}
use Rattle.lz_arith.proofs.AddLemmas.{are_lits_more}

-- the opposites of literals and of one more
pub negations_push : (xs : List Lit) (y : Lit) → negations (xs ++ y ∷ []) ≡ negations xs ++ negated y ∷ []
negations_push [] y = refl
negations_push (x ∷ xs) y = ap (λ (zs : List Lit). negated x ∷ zs) (negations_push xs y)

-- they are as many
pub length-negations : (xs : List Lit) → length (negations xs) ≡ length xs
length-negations [] = refl
length-negations (x ∷ xs) = ap suc (length-negations xs)

-- they are literals of the circuit
pub negations_in : (circuit : Circuit) (xs : List Lit) → AreLits circuit xs → (k : ℕ) (d : Lit) → k < length (negations xs) → variable_of (get_or (negations xs) k d) < circuit.variables
negations_in circuit [] h k d lt = absurd (omega arith)
negations_in circuit (x ∷ xs) h zero d lt = let p = h zero d (omega arith) in omega (arith, p, variable_of-negated x)
negations_in circuit (x ∷ xs) h (suc k) d lt = negations_in circuit xs (λ j e l. h (suc j) e (omega arith)) k d (omega arith)

-- a bit and its opposite make 1
bit_not : (b : Bool) → bit (not b) + bit b ≡ 1
bit_not true = refl
bit_not false = refl

-- a word and its complement
pub word_negations : (a : Assignment) (xs : List Lit) → word a (negations xs) + word a xs + 1 ≡ 2 ^ length xs
unfolding word
word_negations a [] = refl
word_negations a (x ∷ xs) =
    let e = word_negations a xs in
    let n : bit (value a (negated x)) ≡ bit (not (value a x)) = ap bit (value-negated a x) in
    let b = bit_not (value a x) in
    let p = pow-suc 2 (length xs) in
    omega arith

-- a number below the modulus stays
pub small_mod : (b p : ℕ) → b < p → b % p ≡ b
small_mod b p lt = ap (λ (n : ℕ). n % p) (plain b p) ∙ mod-mul-add 0 p b lt
  where
    plain : (b p : ℕ) → b ≡ 0 * p + b
    plain b p = omega arith

-- the numbers of one step: s is the rest with its digit, m the complement of the divisor
divide_fits : (d r D m p diff next : ℕ) (s : ℕ) → d ≤ 1 → s ≡ d + 2 * r → r < D → D < p → m + D + 1 ≡ p * 2 → diff + p * 2 * 1 ≡ s + m + 1 → (next ≡ diff % p) → (1 * D + next ≡ s) × (next < D)
divide_fits d r D m p diff next s h e lt dp c f g =
    let small : diff < p = omega arith in
    let same : diff % p ≡ diff = small_mod diff p small in
    (omega arith, omega arith)

-- a step in which the divisor does not fit leaves the rest as it is
divide_not : (d r D m p diff next : ℕ) (s : ℕ) → diff < p * 2 → s ≡ d + 2 * r → r < D → D < p → m + D + 1 ≡ p * 2 → diff + p * 2 * 0 ≡ s + m + 1 → (next ≡ s % p) → (0 * D + next ≡ s) × (next < D)
divide_not d r D m p diff next s small e lt dp c f g =
    let less : s < D = omega arith in
    let same : s % p ≡ s = small_mod s p (omega arith) in
    (omega arith, omega arith)

-- a step of a long division, by whether the divisor fits
divide_bit : (fits : Bool) (d r D m p diff next : ℕ) (s : ℕ) → d ≤ 1 → diff < p * 2 → s ≡ d + 2 * r → D < p → m + D + 1 ≡ p * 2 → diff + p * 2 * bit fits ≡ s + m + 1
    → next ≡ cond fits (diff % p) (s % p) → r < D → (bit fits * D + next ≡ s) × (next < D)
divide_bit true d r D m p diff next s h small e dp c f g lt = divide_fits d r D m p diff next s h e lt dp c f g
divide_bit false d r D m p diff next s h small e dp c f g lt = divide_not d r D m p diff next s small e lt dp c f g

-- the circuits of a step make a step of a long division
pub step_makes : {one two three : Circuit} (rest divisor : List Lit) {wide : List Lit} (minus taken less : List Lit) {low same : List Lit} (next : List Lit) (digit off on fits : Lit) {v w c e : ℕ}
    → ((a : Assignment) → Satisfies a one.clauses → value a off ≡ false) → ((a : Assignment) → Satisfies a one.clauses → value a on ≡ true)
    → length divisor ≡ length rest → wide ≡ divisor ++ off ∷ [] → minus ≡ negations wide → taken ≡ digit ∷ rest
    → length less ≡ length taken → low ≡ take (length rest) less → same ≡ take (length rest) taken
    → Makes one two v c (λ a. word a less + 2 ^ length taken * bit (value a fits) ≡ word a taken + word a minus + bit (value a on))
    → Makes two three w e (λ a. word a next ≡ cond (value a fits) (word a low) (word a same))
    → Makes one three (v + w) (c + e) (λ a. word a rest < word a divisor
    → (bit (value a fits) * word a divisor + word a next ≡ bit (value a digit) + 2 * word a rest) × (word a next < word a divisor))
unfolding word
step_makes {one} {two} {three} rest divisor {wide} minus taken less {low} {same} next digit off on fits {v} {w} {c} {e} off_false on_true wide_is wide_at minus_at taken_at less_at low_at same_at h k =
    makes_so one three (v + w) (v + w) (c + e) (c + e)
    (λ a. (word a less + 2 ^ length taken * bit (value a fits) ≡ word a taken + word a minus + bit (value a on)) × (word a next ≡ cond (value a fits) (word a low) (word a same))) _
    (makes_then one two three v w c e _ _ _ h k (λ a p q. (p, q)))
    (omega arith) (omega arith)
    (λ a s pq lt.
    let sat : Satisfies a one.clauses = still one two h.extends a (still two three k.extends a s) in
    let n : ℕ = length rest in
    let taken_long : length taken ≡ n + 1 = ap (λ (xs : List Lit). length xs) taken_at ∙ sym (add-one n) in
    let power : 2 ^ length taken ≡ 2 ^ n * 2 = ap (λ (m : ℕ). 2 ^ m) taken_long ∙ pow_twice n in
    let wide_long : length wide ≡ n + 1 = ap (λ (xs : List Lit). length xs) wide_at ∙ length_push divisor off ∙ ap (λ (m : ℕ). m + 1) wide_is in
    let wide_word : word a wide ≡ word a divisor + 2 ^ length divisor * 0 = ap (word a) wide_at ∙ word_push a divisor off ∙ ap (λ (b : Bool). word a divisor + 2 ^ length divisor * bit b) (off_false a sat) in
    let minus_word : word a minus + word a wide + 1 ≡ 2 ^ n * 2 = ap (λ (m : ℕ). m + word a wide + 1) (ap (word a) minus_at) ∙ word_negations a wide ∙ ap (λ (m : ℕ). 2 ^ m) wide_long ∙ pow_twice n in
    let minus_sum : word a minus + word a divisor + 1 ≡ 2 ^ n * 2 = omega arith in
    let taken_word : word a taken ≡ bit (value a digit) + 2 * word a rest = ap (word a) taken_at in
    let less_small : word a less < 2 ^ n * 2 = subst (λ (m : ℕ). word a less < m) (ap (λ (m : ℕ). 2 ^ m) less_at ∙ power) (word_lt a less) in
    let divisor_small : word a divisor < 2 ^ n = subst (λ (m : ℕ). word a divisor < 2 ^ m) wide_is (word_lt a divisor) in
    let sum : word a less + 2 ^ n * 2 * bit (value a fits) ≡ word a taken + word a minus + 1 = ap (λ (m : ℕ). word a less + m * bit (value a fits)) (sym power) ∙ pq.0 ∙ ap (λ (b : Bool). word a taken + word a minus + bit b) (on_true a sat) in
    let low_word : word a low ≡ word a less % 2 ^ n = ap (word a) low_at ∙ word_front a n less (omega arith) in
    let same_word : word a same ≡ word a taken % 2 ^ n = ap (word a) same_at ∙ word_front a n taken (omega arith) in
    let chosen : word a next ≡ cond (value a fits) (word a less % 2 ^ n) (word a taken % 2 ^ n) = pq.1 ∙ ap (λ (m : ℕ). cond (value a fits) m (word a same)) low_word ∙ ap (λ (m : ℕ). cond (value a fits) (word a less % 2 ^ n) m) same_word in
    subst (λ (m : ℕ). (bit (value a fits) * word a divisor + word a next ≡ m) × (word a next < word a divisor)) taken_word
    (divide_bit (value a fits) (bit (value a digit)) (word a rest) (word a divisor) (word a minus) (2 ^ n) (word a less) (word a next) (word a taken)
    (bit_le (value a digit)) less_small taken_word divisor_small minus_sum sum chosen lt))

-- the lists of one step
pub record Parts (circuit : Circuit) (rest divisor taken minus : List Lit) (digit off : Lit) : Type 0 where
  pub taken_at : taken ≡ digit ∷ rest
  pub minus_at : minus ≡ negations (divisor ++ off ∷ [])
  pub long : length taken ≡ length rest + 1
  pub taken_in : AreLits circuit taken
  pub minus_in : AreBits circuit (length taken) minus

-- one literal of the circuit
one_in : (circuit : Circuit) (x : Lit) → IsLit circuit x → AreLits circuit (x ∷ [])
one_in circuit x h zero d lt = h
one_in circuit x h (suc k) d lt = absurd (omega arith)

-- the words that a step is made of are words of the circuit
pub parts : (circuit : Circuit) {rest divisor taken minus : List Lit} {digit off : Lit} → taken ≡ digit ∷ rest → minus ≡ negations (divisor ++ off ∷ [])
    → AreLits circuit rest → AreBits circuit (length rest) divisor → IsLit circuit digit → IsLit circuit off → Parts circuit rest divisor taken minus digit off
parts circuit {rest} {divisor} {taken} {digit} {off} e f hr hd h k =
    let long : length taken ≡ length rest + 1 = ap (λ (xs : List Lit). length xs) e ∙ sym (add-one (length rest)) in
    record {
      taken_at = e;
      minus_at = f;
      long = long;
      taken_in = subst (λ (xs : List Lit). AreLits circuit xs) (sym e) (append_in circuit (digit ∷ []) rest (one_in circuit digit h) hr);
      minus_in = record {
        length = ap (λ (xs : List Lit). length xs) f ∙ length-negations (divisor ++ off ∷ []) ∙ length_push divisor off ∙ ap (λ (m : ℕ). m + 1) hd.length ∙ sym long;
        lits = subst (λ (xs : List Lit). AreLits circuit xs) (sym f) (negations_in circuit (divisor ++ off ∷ []) (append_in circuit divisor (off ∷ []) hd.lits (one_in circuit off k)));
      };
    }

-- ---- all digits

-- the quotient and the rest of the high digits so far
pub record Divides (start now : Circuit) (left divisor quotient rest : List Lit) (i : ℕ) : Type 0 where
  pub lefts : AreLits now left
  pub divisor_in : AreBits now (length left) divisor
  pub quotient_in : AreBits now i quotient
  pub rest_in : AreBits now (length left) rest
  pub made : Makes start now ((4 * length left + 3) * i) ((20 * length left + 14) * i)
      (λ a. 0 < word a divisor → (word a quotient * word a divisor + word a rest ≡ word a (drop (length left - i) left)) × (word a rest < word a divisor))

-- before the first digit both are 0
pub divides_none : (start : Circuit) {left divisor rest : List Lit} (off : Lit) → AreLits start left → AreBits start (length left) divisor → AreBits start (length left) rest → rest ≡ copies (length left) off
    → ((a : Assignment) → Satisfies a start.clauses → value a off ≡ false) → Divides start start left divisor [] rest 0
unfolding word
divides_none start {left} {rest} off hl hd hr is off_false = record {
  lefts = hl;
  divisor_in = hd;
  quotient_in = record { length = refl; lits = λ k d lt. absurd (omega arith) };
  rest_in = hr;
  made = makes_so start start 0 ((4 * length left + 3) * 0) 0 ((20 * length left + 14) * 0) _ _
      (makes_same start (λ a. word a rest ≡ 0) (λ a s. ap (word a) is ∙ word_copies a (length left) off (off_false a s)))
      (omega arith) (omega arith)
      (λ a s p pos.
      let none : word a (drop (length left - 0) left) ≡ 0 = ap (word a) (drop_all (length left - 0) left (omega arith)) in
      (omega arith, omega arith));
}

-- one more digit of a quotient
quotient_step : (f d q D r s H : ℕ) → q * D + r ≡ H → f * D + s ≡ d + 2 * r → (f + 2 * q) * D + s ≡ d + 2 * H
quotient_step f d q D r s H e g = grind arith

-- one more step divides one more digit
pub divides_more : (start now next : Circuit) (left divisor quotient rest more r : List Lit) (i at : ℕ) (d fits : Lit) → Divides start now left divisor quotient rest i → i < length left → at ≡ length left - 1 - i
    → IsLit next fits → AreBits next (length left) r → more ≡ fits ∷ quotient
    → Makes now next (4 * length left + 3) (20 * length left + 14) (λ a. word a rest < word a divisor
    → (bit (value a fits) * word a divisor + word a r ≡ bit (value a (get_or left at d)) + 2 * word a rest) × (word a r < word a divisor))
    → Divides start next left divisor more r (i + 1)
unfolding word
divides_more start now next left divisor quotient rest more r i at d fits h lt at_is fits_in r_in is made = record {
  lefts = are_lits_more now next left made.extends.more h.lefts;
  divisor_in = record { length = h.divisor_in.length; lits = are_lits_more now next divisor made.extends.more h.divisor_in.lits };
  quotient_in = record {
    length = ap (λ (xs : List Lit). length xs) is ∙ sym (add-one (length quotient)) ∙ ap (λ (m : ℕ). m + 1) h.quotient_in.length;
    lits = subst (λ (xs : List Lit). AreLits next xs) (sym is) (append_in next (fits ∷ []) quotient (one_in next fits fits_in) (are_lits_more now next quotient made.extends.more h.quotient_in.lits));
  };
  rest_in = r_in;
  made = makes_so start next ((4 * length left + 3) * i + (4 * length left + 3)) ((4 * length left + 3) * (i + 1)) ((20 * length left + 14) * i + (20 * length left + 14)) ((20 * length left + 14) * (i + 1)) _ _
      (makes_then start now next ((4 * length left + 3) * i) (4 * length left + 3) ((20 * length left + 14) * i) (20 * length left + 14) _ _
      (λ a. 0 < word a divisor → (word a more * word a divisor + word a r ≡ word a (drop (length left - (i + 1)) left)) × (word a r < word a divisor))
      h.made made
      (λ a p q pos.
      let before = p pos in
      let now_ = q before.1 in
      let up : drop (length left - (i + 1)) left ≡ get_or left at d ∷ drop (length left - i) left =
      ap (λ (m : ℕ). drop m left) (let e : length left - (i + 1) ≡ at = omega arith in e) ∙ drop-cons left at d (omega arith)
      ∙ ap (λ (m : ℕ). get_or left at d ∷ drop m left) (let e : suc at ≡ length left - i = omega arith in e) in
      let high : word a (drop (length left - (i + 1)) left) ≡ bit (value a (get_or left at d)) + 2 * word a (drop (length left - i) left) = ap (word a) up in
      let whole : word a more ≡ bit (value a fits) + 2 * word a quotient = ap (word a) is in (
        ap (λ (m : ℕ). m * word a divisor + word a r) whole
            ∙ quotient_step (bit (value a fits)) (bit (value a (get_or left at d))) (word a quotient) (word a divisor) (word a rest) (word a r) (word a (drop (length left - i) left)) before.0 now_.0
            ∙ sym high,
        now_.1,
      )))
      (row_more (4 * length left + 3) i) (row_more (20 * length left + 14) i) (λ a s p. p);
}

-- a quotient and a rest below the divisor are the quotient and the remainder
quotient_is : (q D r N : ℕ) → q * D + r ≡ N → r < D → (q ≡ N / D) × (r ≡ N % D)
quotient_is q D r N e lt = (sym (ap (λ (m : ℕ). m / D) (sym e) ∙ div-mul-add q D r lt), sym (ap (λ (m : ℕ). m % D) (sym e) ∙ mod-mul-add q D r lt))

-- after all digits they are those of the word
pub divides_all : {start now : Circuit} {left divisor quotient rest : List Lit} {i : ℕ} → Divides start now left divisor quotient rest i → i ≡ length left
    → Makes start now ((4 * length left + 3) * length left) ((20 * length left + 14) * length left)
    (λ a. 0 < word a divisor → (word a quotient ≡ word a left / word a divisor) × (word a rest ≡ word a left % word a divisor))
divides_all {start} {now} {left} {divisor} {quotient} {rest} {i} h e =
    makes_so start now ((4 * length left + 3) * i) ((4 * length left + 3) * length left) ((20 * length left + 14) * i) ((20 * length left + 14) * length left) _ _ h.made
    (mul-le-mul_left (4 * length left + 3) (omega arith)) (mul-le-mul_left (20 * length left + 14) (omega arith))
    (λ a s p pos.
    let f = p pos in
    let all : drop (length left - i) left ≡ left = ap (λ (m : ℕ). drop m left) (let z : length left - i ≡ 0 = omega arith in z) in
    quotient_is (word a quotient) (word a divisor) (word a rest) (word a left) (f.0 ∙ ap (word a) all) f.1)

-- there is room for one more step
pub digits_room : (n i now start : ℕ) → i < n → now ≤ start + (4 * n + 3) * i → start + (4 * n + 3) * n < variable_bound → now + 4 * n + 3 < variable_bound
digits_room n i now start lt le room =
    let p = row_more (4 * n + 3) i in
    let q = mul-le-mul_left {m = i + 1} {n = n} (4 * n + 3) (omega arith) in
    omega arith

-- a turn of the loop is one more step
pub divides_turn : {start now next : Circuit} {left divisor quotient rest seen more held r : List Lit} {i at : ℕ} (d : Lit) {fits : Lit} → Divides start now left divisor quotient rest i → i < length left → at ≡ length left - 1 - i
    → seen ≡ rest → held ≡ quotient → IsLit next fits → AreBits next (length seen) r → more ≡ fits ∷ held
    → Makes now next (4 * length seen + 3) (20 * length seen + 14) (λ a. word a seen < word a divisor
    → (bit (value a fits) * word a divisor + word a r ≡ bit (value a (get_or left at d)) + 2 * word a seen) × (word a r < word a divisor))
    → Divides start next left divisor more r (i + 1)
divides_turn {start} {now} {next} {left} {divisor} {quotient} {rest} {seen} {more} {r} {i} {at} d {fits} h lt at_is seen_is held_is fits_in r_in is made =
    let long : length seen ≡ length left = ap (λ (xs : List Lit). length xs) seen_is ∙ h.rest_in.length in
    let own = subst (λ (n : ℕ). Makes now next (4 * n + 3) (20 * n + 14) (λ a. word a seen < word a divisor → (bit (value a fits) * word a divisor + word a r ≡ bit (value a (get_or left at d)) + 2 * word a seen) × (word a r < word a divisor))) long made in
    let whole = subst (λ (xs : List Lit). Makes now next (4 * length left + 3) (20 * length left + 14) (λ a. word a xs < word a divisor → (bit (value a fits) * word a divisor + word a r ≡ bit (value a (get_or left at d)) + 2 * word a xs) × (word a r < word a divisor))) seen_is own in
    divides_more start now next left divisor quotient rest more r i at d fits h lt at_is fits_in (subst (λ (n : ℕ). AreBits next n r) long r_in)
    (is ∙ ap (λ (xs : List Lit). fits ∷ xs) held_is) whole
