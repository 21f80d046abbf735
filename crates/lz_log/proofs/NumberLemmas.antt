-- Numbers at the front of bytes: there is at most one, and `decimal` writes it.
use Rattle.std.proofs.Common.{◌≡◌, ◌⊎◌, ℕ, zero, suc, ◌+◌, ◌^◌, ◌<◌, ◌≤◌, List, [], ◌∷◌, ◌++◌, length, get_or, take, drop, refl, sym, ap, ◌∙◌, arith, lt-ltb, le-ltb, take-append-drop, inl, inr, lit≤}
use Rattle.std.proofs.lemmas.Bool.{cases_lt}
use Rattle.std.proofs.lemmas.List.{length-take}
use Rattle.std.proofs.lemmas.Fmt.{decimal_is_IsNumeral, decimal-digits_value, first_decimal, decimal_digit}
use Rattle.std.proofs.lemmas.Str.{digit_value_digit}
use Rattle.std.proofs.lemmas.Str.Parse.{digit_from_value}
use Rattle.std.specs.Char.{digit_value, is_digit}
use Rattle.std.specs.Fmt.{decimal}
use Rattle.std.specs.List.{prefix_len}
use Rattle.std.specs.Str.Parse.{AllDigits, digits_value}
use Rattle.lz_log.specs.ProofReading.{IsNumber}
use Rattle.lz_log.specs.Pieces.{number_cap, IsCapped, NoDigit, HasNumber, TellsNumber, HasBounded}
use Rattle.lz_base.proofs.ListLemmas.{cons_parts}
use Rattle.lz_base.proofs.NumeralLemmas.{decimal_numerals}

-- a digit's byte
pub digit_byte : (c : ℕ) → digit_value c < 10 → (48 ≤ c) × (digit_value c + 48 ≡ c)
digit_byte c h =
    let range = digit_from_value c h in
    (range.0, digit_value_digit c range)

-- how many digits stand at the front
abbrev pub digits_front : List ℕ → ℕ
digits_front bytes = prefix_len (λ byte. is_digit byte 10) bytes

-- those at the front are digits, and the next byte is none
pub front_digits : (bytes : List ℕ) → AllDigits 10 (take (digits_front bytes) bytes) × NoDigit (drop (digits_front bytes) bytes)
front_digits [] = (tt, lit≤ tt)
front_digits (c ∷ bytes) =
    let rest = front_digits bytes in
    elim (cases_lt (digit_value c) 10) [
      | inl digit ↦
          let next : 1 + digits_front bytes ≡ suc (digits_front bytes) = omega arith in
          rw (lt-ltb (digit_value c) 10 digit, next) ((digit, rest.0), rest.1)
      | inr other ↦ rw (le-ltb (digit_value c) 10 other) (tt, other)
    ]

-- digits end where the first byte that is none stands
pub same_front : (ds es r s : List ℕ) → AllDigits 10 ds → AllDigits 10 es → NoDigit r → NoDigit s → ds ++ r ≡ es ++ s → (ds ≡ es) × (r ≡ s)
same_front [] [] r s hd he nr ns e = (refl, e)
same_front [] (x ∷ es) r s hd he nr ns e = absurd (let h : 10 ≤ digit_value x = rw e at nr in omega (arith, he.0))
same_front (x ∷ ds) [] r s hd he nr ns e = absurd (let h : 10 ≤ digit_value x = rw (← e) at ns in omega (arith, hd.0))
same_front (x ∷ ds) (y ∷ es) r s hd he nr ns e =
    let p = cons_parts e in
    let q = same_front ds es r s hd.1 he.1 nr ns p.1 in
    (rw (p.0, q.0) refl, q.1)

-- at most one number stands at the front
pub one_number : (bytes ds es : List ℕ) (n m : ℕ) (r s : List ℕ) → HasNumber bytes ds n r → HasNumber bytes es m s → (ds ≡ es) × (r ≡ s) × (n ≡ m)
one_number bytes ds es n m r s a b =
    let q = same_front ds es r s a.number_.numeral.1 b.number_.numeral.1 a.stops b.stops (sym a.text ∙ b.text) in
    (q.0, q.1, sym a.number_.value ∙ ap (digits_value 10) q.0 ∙ b.number_.value)

-- a number at the front is what the digits at the front write
pub number_front : (bytes ds : List ℕ) (n : ℕ) (r : List ℕ) → HasNumber bytes ds n r → ds ≡ take (digits_front bytes) bytes
number_front bytes ds n r a =
    let f = front_digits bytes in
    (same_front ds (take (digits_front bytes) bytes) r (drop (digits_front bytes) bytes) a.number_.numeral.1 f.0 a.stops f.1 (sym a.text ∙ sym (take-append-drop (digits_front bytes) bytes))).0

-- no digit, no number
pub no_number : (bytes ds : List ℕ) (n : ℕ) (r : List ℕ) → digits_front bytes ≡ 0 → HasNumber bytes ds n r → ⊥
no_number bytes ds n r none a =
    let e : ds ≡ [] = number_front bytes ds n r a ∙ ap (λ k. take k bytes) none in
    let long : 0 < length ds = a.number_.numeral.0 in
    omega (arith, ap (λ (l : List ℕ). length l) e)

first_of_take : (xs : List ℕ) (k : ℕ) → 0 < k → get_or (take k xs) 0 0 ≡ get_or xs 0 0
first_of_take [] zero h = refl
first_of_take [] (suc k) h = refl
first_of_take (x ∷ xs) zero h = absurd (omega arith)
first_of_take (x ∷ xs) (suc k) h = refl

-- a leading zero, no number
pub no_leading_zero : (bytes ds : List ℕ) (n : ℕ) (r : List ℕ) → 1 < digits_front bytes → digits_front bytes ≤ length bytes → get_or bytes 0 0 ≡ 48 → HasNumber bytes ds n r → ⊥
no_leading_zero bytes ds n r more within zero_ a =
    let e = number_front bytes ds n r a in
    let len : length ds ≡ digits_front bytes = omega (arith, ap (λ (l : List ℕ). length l) e, length-take (digits_front bytes) bytes) in
    let first : get_or ds 0 0 ≡ 48 = ap (λ (l : List ℕ). get_or l 0 0) e ∙ first_of_take bytes (digits_front bytes) (omega arith) ∙ zero_ in
    let one = a.number_.first first in
    omega arith

-- each of the digits is one
pub digit_of : (ds : List ℕ) (i : ℕ) → AllDigits 10 ds → i < length ds → digit_value (get_or ds i 0) < 10
digit_of [] i h lt = absurd (omega arith)
digit_of (d ∷ ds) zero h lt = h.0
digit_of (d ∷ ds) (suc i) h lt = digit_of ds i h.1 (omega arith)

-- the number at the front is found
pub found_number : (bytes : List ℕ) (told : ℕ) → 0 < digits_front bytes → digits_front bytes ≤ length bytes → (get_or bytes 0 0 ≡ 48 → digits_front bytes ≡ 1) → IsCapped told (digits_value 10 (take (digits_front bytes) bytes)) → TellsNumber bytes told (drop (digits_front bytes) bytes)
found_number bytes told some within first capped =
    let f = front_digits bytes in
    let len : length (take (digits_front bytes) bytes) ≡ digits_front bytes = omega (arith, length-take (digits_front bytes) bytes) in
    let number : IsNumber (take (digits_front bytes) bytes) (digits_value 10 (take (digits_front bytes) bytes)) = record {
      numeral = (omega arith, f.0);
      first = λ e. len ∙ first (sym (first_of_take bytes (digits_front bytes) some) ∙ e);
      value = refl;
    } in
    record {
      digits = take (digits_front bytes) bytes;
      number = digits_value 10 (take (digits_front bytes) bytes);
      has = record { number_ = number; stops = f.1; text = sym (take-append-drop (digits_front bytes) bytes) };
      capped = capped;
    }

-- what `decimal` writes is a number
pub decimal_number : (n : ℕ) → n < number_cap → IsNumber (decimal n) n
decimal_number n small =
    let wide : n < 2 ^ 64 = omega arith in
    let p = decimal_is_IsNumeral n wide in
    record { numeral = p.0; first = first_is n wide; value = p.1 }
  where
    first_is : (n : ℕ) → n < 2 ^ 64 → get_or (decimal n) 0 0 ≡ 48 → length (decimal n) ≡ 1
    first_is zero wide e = ap (λ (l : List ℕ). length l) (decimal_digit 0 (lit≤ tt))
    first_is (suc n) wide e = absurd (let h = first_decimal (suc n) (omega arith) wide in omega arith)

-- a number is what `decimal` writes of it
pub number_decimal : (ds : List ℕ) (n : ℕ) → n < number_cap → IsNumber ds n → ds ≡ decimal n
number_decimal ds n small h =
    let wide : digits_value 10 ds < 2 ^ 64 = omega (arith, h.value) in
    sym (decimal-digits_value decimal_numerals ds h.numeral.1 h.numeral.0 h.first wide) ∙ ap decimal h.value

-- a number with a byte behind it that is no digit, as a number at the front
pub bounded_number : (bytes : List ℕ) (end_ low high n : ℕ) (rest : List ℕ) → high < number_cap → 10 ≤ digit_value end_ → HasBounded bytes end_ low high n rest → HasNumber bytes (decimal n) n (end_ ∷ rest)
bounded_number bytes end_ low high n rest small stop h =
    record { number_ = decimal_number n (let le = h.high_ in omega arith); stops = stop; text = h.text }

-- no number, no number within bounds
pub no_bounded : (bytes : List ℕ) (end_ low high : ℕ) → high < number_cap → 10 ≤ digit_value end_ → ((digits : List ℕ) (number : ℕ) (rest : List ℕ) → HasNumber bytes digits number rest → ⊥) → (n : ℕ) (rest : List ℕ) → HasBounded bytes end_ low high n rest → ⊥
no_bounded bytes end_ low high small stop none n rest h = none (decimal n) n (end_ ∷ rest) (bounded_number bytes end_ low high n rest small stop h)

-- the number at the front lies outside the bounds
pub out_of_bounds : (bytes : List ℕ) (end_ low high told : ℕ) (behind : List ℕ) → high < number_cap → 10 ≤ digit_value end_ → TellsNumber bytes told behind → (told < low) ⊎ (high < told) → low ≤ number_cap → (n : ℕ) (rest : List ℕ) → HasBounded bytes end_ low high n rest → ⊥
out_of_bounds bytes end_ low high told behind small stop t out low_small n rest h =
    let same = (one_number bytes t.digits (decimal n) t.number n behind (end_ ∷ rest) t.has (bounded_number bytes end_ low high n rest small stop h)).2 in
    let c = t.capped in
    let most = c.most in
    elim out [
      | inl less ↦ let is : told ≡ t.number = c.same (omega arith) in let a = h.low_ in omega arith
      | inr more ↦ let b = h.high_ in omega arith
    ]

-- another byte stands behind the number
pub other_end : (bytes : List ℕ) (end_ low high told : ℕ) (behind : List ℕ) → high < number_cap → 10 ≤ digit_value end_ → TellsNumber bytes told behind → ((rest : List ℕ) → behind ≡ end_ ∷ rest → ⊥) → (n : ℕ) (rest : List ℕ) → HasBounded bytes end_ low high n rest → ⊥
other_end bytes end_ low high told behind small stop t none n rest h =
    none rest (one_number bytes t.digits (decimal n) t.number n behind (end_ ∷ rest) t.has (bounded_number bytes end_ low high n rest small stop h)).1

-- the number at the front lies within the bounds, and the byte stands behind it
pub within_bounds : (bytes : List ℕ) (end_ low high told : ℕ) (behind rest : List ℕ) → high < number_cap → TellsNumber bytes told behind → low ≤ told → told ≤ high → behind ≡ end_ ∷ rest → HasBounded bytes end_ low high told rest
within_bounds bytes end_ low high told behind rest small t ge le e =
    let same : told ≡ t.number = t.capped.same (omega arith) in
    let digits : t.digits ≡ decimal told = number_decimal t.digits t.number (omega arith) t.has.number_ ∙ ap decimal (sym same) in
    record { low_ = ge; high_ = le; text = t.has.text ∙ rw (digits, e) refl }
