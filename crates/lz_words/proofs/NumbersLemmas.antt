-- What `parse` answers of a word of digits is the number that they write.
use Rattle.std.proofs.Common.{◌≡◌, ℕ, ◌^◌, ◌<◌, true, false, ltb, leb, List, ◌&&◌, length, Some, Result, Ok, Err, refl, ap, arith}
use Rattle.std.specs.List.{list_all}
use Rattle.std.specs.Char.{is_ascii_digit}
use Rattle.std.specs.Result.{result_ok, OkIff}
use Rattle.std.specs.Str.Parse.{AllDigits, digits_value, ParsesUnsigned}
use Rattle.std.proofs.lemmas.Bool.{and_parts}
use Rattle.std.proofs.lemmas.Bool.Decides.{nat_tests}
use Rattle.std.proofs.lemmas.Str.Parse.{parse_digits}
use Rattle.lz_words.specs.Limits.{digit_limit}
use Rattle.lz_words.specs.CommandLine.{is_number, number_of}
use Rattle.lz_base.proofs.NumeralLemmas.{all_digits, decimal_numerals}

is_some : (n : ℕ) → ltb 0 n ≡ true → 0 < n
is_some n h = grind (arith, nat_tests)

number_parts : (bs : List ℕ) → is_number bs ≡ true → AllDigits 10 bs × (0 < length bs)
number_parts bs h =
    let p = and_parts (ltb 0 (length bs)) (leb (length bs) digit_limit && list_all is_ascii_digit bs) h in
    let q = and_parts (leb (length bs) digit_limit) (list_all is_ascii_digit bs) p.1 in
    (all_digits bs q.1, is_some (length bs) p.0)

pub parsed_number : {E : Type 0} (bs : List ℕ) (r : Result ℕ E) → is_number bs ≡ true → ParsesUnsigned 64 10 bs r → result_ok r ≡ number_of bs
parsed_number bs r h parsed = by r (parse_digits decimal_numerals 64 bs r parsed (number_parts bs h).0)
  where
    below : (v : ℕ) → v < 2 ^ 64 → ltb v (2 ^ 64) ≡ true
    below v k = grind (arith, nat_tests)

    above : (v : ℕ) → (v < 2 ^ 64 → ⊥) → ltb v (2 ^ 64) ≡ false
    above v k = grind (arith, nat_tests)

    by : {E : Type 0} (r : Result ℕ E) → OkIff r ((0 < length bs) × (digits_value 10 bs < 2 ^ 64)) (digits_value 10 bs) → result_ok r ≡ number_of bs
    by (Ok x) is = rw (h, below (digits_value 10 bs) is.0.1) (ap Some is.1)
    by (Err e) is = rw (h, above (digits_value 10 bs) (λ lt. is ((number_parts bs h).1, lt))) refl
