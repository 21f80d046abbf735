-- Worked values of the operators, computed by their definitions alone.
use Rattle.std.proofs.Common.{◌≡◌, refl}
use Rattle.lz_base.specs.declared.operator.Unary.TheVariants.{Minus, Invert, Not}
use Rattle.lz_base.specs.declared.operator.Binary.TheVariants.{Mul, Div, Rem, Add, Sub, Shl, Shr, Lt, Gt, Le, Ge, Eq, Ne, BitAnd, BitXor, BitOr, Both, Either}
use Rattle.lz_base.specs.declared.word.IntType.TheVariants.{Int, Unsigned}
use Rattle.lz_base.specs.Words.{unary_value, binary_value}

-- 65536 * 65536 wraps to 0
product_wraps : binary_value Mul 65536 65536 Unsigned ≡ 0
product_wraps = refl

-- 2147483647 + 1 is -2147483648
sum_wraps : binary_value Add 2147483647 1 Int ≡ 2147483648
sum_wraps = refl

-- 3 - 5 is -2
difference_wraps : binary_value Sub 3 5 Int ≡ 4294967294
difference_wraps = refl

-- -7 / 2 is -3, and -7 % 2 is -1
quotient_truncates : binary_value Div 4294967289 2 Int ≡ 4294967293
quotient_truncates = refl

remainder_has_the_dividend's_sign : binary_value Rem 4294967289 2 Int ≡ 4294967295
remainder_has_the_dividend's_sign = refl

-- 7 / -2 is -3, and 7 % -2 is 1
quotient_by_a_negative : binary_value Div 7 4294967294 Int ≡ 4294967293
quotient_by_a_negative = refl

remainder_by_a_negative : binary_value Rem 7 4294967294 Int ≡ 1
remainder_by_a_negative = refl

-- -2147483648 / -1 is -2147483648, with the remainder 0
least_by_minus_one : binary_value Div 2147483648 4294967295 Int ≡ 2147483648
least_by_minus_one = refl

least_by_minus_one_leaves_nothing : binary_value Rem 2147483648 4294967295 Int ≡ 0
least_by_minus_one_leaves_nothing = refl

-- of unsigned words the quotient is that of the numbers
quotient_without_sign : binary_value Div 4294967289 2 Unsigned ≡ 2147483644
quotient_without_sign = refl

-- a quotient and a remainder by 0 are 0
quotient_by_zero : binary_value Div 5 0 Int ≡ 0
quotient_by_zero = refl

remainder_by_zero : binary_value Rem 5 0 Unsigned ≡ 0
remainder_by_zero = refl

-- 1 << 33 is 2, and 1 << 31 is -2147483648
shift_by_33 : binary_value Shl 1 33 Int ≡ 2
shift_by_33 = refl

shift_into_the_sign : binary_value Shl 1 31 Int ≡ 2147483648
shift_into_the_sign = refl

-- -8 >> 1 is -4, and -1 >> 31 is -1; an unsigned word is filled with 0
shift_copies_the_sign : binary_value Shr 4294967288 1 Int ≡ 4294967292
shift_copies_the_sign = refl

shift_of_minus_one : binary_value Shr 4294967295 31 Int ≡ 4294967295
shift_of_minus_one = refl

shift_without_sign : binary_value Shr 4294967288 1 Unsigned ≡ 2147483644
shift_without_sign = refl

-- -1 < 1 of signed words, and not of unsigned ones
signed_less : binary_value Lt 4294967295 1 Int ≡ 1
signed_less = refl

unsigned_not_less : binary_value Lt 4294967295 1 Unsigned ≡ 0
unsigned_not_less = refl

-- orders at equal words
no_less_than_itself : binary_value Gt 7 7 Int ≡ 0
no_less_than_itself = refl

at_most_itself : binary_value Le 7 7 Int ≡ 1
at_most_itself = refl

at_least_itself : binary_value Ge 7 7 Unsigned ≡ 1
at_least_itself = refl

-- equality, and bit by bit: 12 and 10
unequal : binary_value Ne 1 2 Int ≡ 1
unequal = refl

equal : binary_value Eq 2 2 Int ≡ 1
equal = refl

bits_of_both : binary_value BitAnd 12 10 Int ≡ 8
bits_of_both = refl

bits_of_one : binary_value BitXor 12 10 Int ≡ 6
bits_of_one = refl

bits_of_any : binary_value BitOr 12 10 Int ≡ 14
bits_of_any = refl

-- truth: of 2 and 4, whose bits share none, both are true
both_are_true : binary_value Both 2 4 Int ≡ 1
both_are_true = refl

one_is_true : binary_value Either 0 4 Int ≡ 1
one_is_true = refl

-- -(-2147483648) is -2147483648, -0 is 0, ~0 is -1, and !7 is 0
least_negated : unary_value Minus 2147483648 Int ≡ 2147483648
least_negated = refl

zero_negated : unary_value Minus 0 Int ≡ 0
zero_negated = refl

zero_inverted : unary_value Invert 0 Unsigned ≡ 4294967295
zero_inverted = refl

seven_is_true : unary_value Not 7 Int ≡ 0
seven_is_true = refl
