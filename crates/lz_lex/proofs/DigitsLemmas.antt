-- Letters and digits are ASCII, digits have the value that std reads, and tables are searched row by row.
use Rattle.std.proofs.Common.{◌≡◌, ℕ, zero, suc, ◌^◌, ◌<◌, Bool, true, false, cond, eqb, List, [], ◌∷◌, length, take, drop, map, Option, Some, None, Result, Ok, Err, refl, sym, ap, subst, ◌∙◌, arith, inl, inr}
use Rattle.std.specs.Prelude.{find, option_map, nat_lt}
use Rattle.std.specs.Result.{result_ok, OkIff}
use Rattle.std.specs.Char.{digit_value}
use Rattle.std.specs.List.{list_all, prefix_len}
use Rattle.std.specs.Str.{IsAscii}
use Rattle.std.specs.Str.Parse.{ParsesUnsigned, AllDigits, IsNumeral, digits_value, without_leading_plus}
use Rattle.std.proofs.lemmas.Bool.{cases_Bool, cond-true, cond-false, and_parts}
use Rattle.std.proofs.lemmas.Bool.Decides.{nat_tests}
use Rattle.lz_tree.specs.Pieces.{ConstantPiece, Suffix, begins, is_word_byte}
use Rattle.lz_lex.specs.declared.constant.Base.{Base}
use Rattle.lz_lex.specs.declared.constant.Base.TheVariants as base
use Rattle.lz_lex.specs.Scanning.{is_digit, radix, is_decimal, digits_value_below, constant_below}
use Rattle.lz_lex.proofs.PrefixLemmas.{prefix_all, prefix-pass}

byte_ascii : (b : ℕ) → is_word_byte b ≡ true → b < 128
byte_ascii b h = grind (arith, nat_tests)

ascii_word : (xs : List ℕ) → list_all is_word_byte xs ≡ true → IsAscii xs
ascii_word [] h i = omega arith
ascii_word (x ∷ xs) h zero = byte_ascii x (and_parts (is_word_byte x) (list_all is_word_byte xs) h).0
ascii_word (x ∷ xs) h (suc i) = ascii_word xs (and_parts (is_word_byte x) (list_all is_word_byte xs) h).1 i

-- the letters, digits and `_` at the front are ASCII
pub front_ascii : (xs : List ℕ) → IsAscii (take (prefix_len is_word_byte xs) xs)
front_ascii xs = ascii_word (take (prefix_len is_word_byte xs) xs) (prefix_all is_word_byte xs)

-- ---- digits

digit_fits : (b : Base) (c : ℕ) → is_digit b c ≡ true → (digit_value c < radix b) × (c < 128) × (eqb c 43 ≡ false)
digit_fits base.Octal c h = (grind (arith, nat_tests), grind (arith, nat_tests), grind (arith, nat_tests))
digit_fits base.Decimal c h = (grind (arith, nat_tests), grind (arith, nat_tests), grind (arith, nat_tests))
digit_fits base.Hexadecimal c h = (grind (arith, nat_tests), grind (arith, nat_tests), grind (arith, nat_tests))

-- digits are ASCII
pub digits_ascii : (b : Base) (xs : List ℕ) → list_all (is_digit b) xs ≡ true → IsAscii xs
digits_ascii b [] h i = omega arith
digits_ascii b (x ∷ xs) h zero = (digit_fits b x (and_parts (is_digit b x) (list_all (is_digit b) xs) h).0).1
digits_ascii b (x ∷ xs) h (suc i) = digits_ascii b xs (and_parts (is_digit b x) (list_all (is_digit b) xs) h).1 i

all_digits : (b : Base) (xs : List ℕ) → list_all (is_digit b) xs ≡ true → AllDigits (radix b) xs
all_digits b [] h = tt
all_digits b (x ∷ xs) h =
    let parts = and_parts (is_digit b x) (list_all (is_digit b) xs) h in
    ((digit_fits b x parts.0).0, all_digits b xs parts.1)

no_plus : (b : Base) (xs : List ℕ) → list_all (is_digit b) xs ≡ true → without_leading_plus xs ≡ xs
no_plus b [] h = refl
no_plus b (x ∷ xs) h =
    let first : eqb x 43 ≡ false = (digit_fits b x (and_parts (is_digit b x) (list_all (is_digit b) xs) h).0).2 in
    ap (λ (n : ℕ). drop n (x ∷ xs)) (cond-false (eqb x 43) 1 0 first)

by_result : {E : Type 0} (r : Result ℕ E) (v : ℕ) (P : Type 0) → OkIff r (P × (v < 2 ^ 64)) v → P → result_ok r ≡ cond (nat_lt v (2 ^ 64)) (Some v) None
by_result (Ok x) v P h p =
    let low : v < 2 ^ 64 = h.0.1 in
    let test : nat_lt v (2 ^ 64) ≡ true = grind (arith, nat_tests) in
    ap (λ n. Some n) h.1 ∙ sym (cond-true (nat_lt v (2 ^ 64)) (Some v) None test)
by_result (Err e) v P h p =
    elim (cases_Bool (nat_lt v (2 ^ 64))) [
      | inl low ↦ let fits : v < 2 ^ 64 = grind (arith, nat_tests) in absurd (h (p, fits))
      | inr high ↦ sym (cond-false (nat_lt v (2 ^ 64)) (Some v) None high)
    ]

-- what is read is the value of the digits, if that is below 2 ^ 64
pub digits_read : {E : Type 0} (b : Base) (xs : List ℕ) (r : Result ℕ E) → 0 < length xs → list_all (is_digit b) xs ≡ true → ParsesUnsigned 64 (radix b) xs r → result_ok r ≡ digits_value_below b xs
digits_read {E = E} b xs r some h read =
    let plain : OkIff r (IsNumeral (radix b) xs × (digits_value (radix b) xs < 2 ^ 64)) (digits_value (radix b) xs) =
    subst (λ (ys : List ℕ). OkIff r (IsNumeral (radix b) ys × (digits_value (radix b) ys < 2 ^ 64)) (digits_value (radix b) ys)) (no_plus b xs h) read in
    by_result r (digits_value (radix b) xs) (IsNumeral (radix b) xs) plain (some, all_digits b xs h)

-- a constant of the value, if there is one
abbrev pub constant_with : Base → Suffix → ℕ → ConstantPiece
constant_with b s value = record { value = value; form = record { decimal = is_decimal b; unsigned = s.unsigned; longs = s.longs } }

below_cases : (t : Bool) (b : Base) (s : Suffix) (v : ℕ) (o : Option ℕ) → o ≡ cond t (Some v) None → option_map (constant_with b s) o ≡ cond t (Some (constant_with b s v)) None
below_cases true b s v o e = ap (option_map (constant_with b s)) e
below_cases false b s v o e = ap (option_map (constant_with b s)) e

-- the constant of these digits from their value
pub constant_read : (b : Base) (xs : List ℕ) (s : Suffix) (o : Option ℕ) → o ≡ digits_value_below b xs → option_map (constant_with b s) o ≡ constant_below b xs s
constant_read b xs s o e = below_cases (nat_lt (digits_value (radix b) xs) (2 ^ 64)) b s (digits_value (radix b) xs) o e

-- there is a digit where digits begin
pub some_digits : (p : ℕ → Bool) (xs : List ℕ) → begins p xs ≡ true → 0 < length (take (prefix_len p xs) xs)
some_digits p [] h = absurd cc
some_digits p (x ∷ xs) h = subst (λ (n : ℕ). 0 < length (take n (x ∷ xs))) (sym (prefix-pass p x xs h)) (omega arith)

-- ---- tables

-- a search among what a map gives
pub find-map : {A B : Type 0} (f : A → B) (p : B → Bool) (xs : List A) → option_map f (find (λ x. p (f x)) xs) ≡ find p (map f xs)
find-map f p [] = refl
find-map f p (x ∷ xs) =
    elim (cases_Bool (p (f x))) [
      | inl pass ↦ ap (option_map f) (cond-true (p (f x)) (Some x) (find (λ y. p (f y)) xs) pass) ∙ sym (cond-true (p (f x)) (Some (f x)) (find p (map f xs)) pass)
      | inr fail ↦ ap (option_map f) (cond-false (p (f x)) (Some x) (find (λ y. p (f y)) xs) fail) ∙ find-map f p xs ∙ sym (cond-false (p (f x)) (Some (f x)) (find p (map f xs)) fail)
    ]
