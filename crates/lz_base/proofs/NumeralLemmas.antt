-- Facts on decimal digits that the library lacks: bytes that are digits are digits to the base 10.
use Rattle.std.proofs.Common.{◌≡◌, ℕ, true, List, [], ◌∷◌, arith}
use Rattle.std.specs.List.{list_all}
use Rattle.std.specs.Char.{is_ascii_digit}
use Rattle.std.specs.Int.{IsInRange}
use Rattle.std.specs.Str.Parse.{AllDigits, digits_value}
use Rattle.std.proofs.lemmas.Bool.{and_parts}
use Rattle.std.proofs.lemmas.Bool.Decides.{nat_tests}
use Rattle.std.proofs.lemmas.Str.Parse.{IsNumeralModel, numerals_by_value, tells_digits}

-- digits to the base 10 have the value that std reads
pub decimal_numerals : IsNumeralModel (AllDigits 10) (digits_value 10)
decimal_numerals = numerals_by_value (AllDigits 10) tells_digits

-- a digit is one of ten bytes
pub digit_in_range : (c : ℕ) → is_ascii_digit c ≡ true → IsInRange 48 57 c
digit_in_range c h = grind (arith, nat_tests)

-- bytes that are all digits
pub all_digits : (ds : List ℕ) → list_all is_ascii_digit ds ≡ true → AllDigits 10 ds
all_digits [] h = tells_digits.empty
all_digits (d ∷ ds) h =
    let p = and_parts (is_ascii_digit d) (list_all is_ascii_digit ds) h in
    tells_digits.more d ds (digit_in_range d p.0) (all_digits ds p.1)
