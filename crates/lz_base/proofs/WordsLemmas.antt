-- The values of the operators are words.
use Rattle.std.proofs.Common.{◌≡◌, ℕ, ◌<◌, ◌%◌, ◌==◌, Bool, true, false, not, ◌&&◌, ◌||◌, ℤ, pos, negsuc, cond, if◌then◌else◌, refl, arith}
use Rattle.std.specs.Prelude.{int_lt, int_div, int_rem}
use Rattle.std.specs.Int.{int_shr}
use Rattle.std.proofs.lemmas.Nat.{and_le_l, or_lt, xor_lt}
use Rattle.lz_base.specs.declared.operator.Unary.{Unary}
use Rattle.lz_base.specs.declared.operator.Unary.TheVariants.{Plus, Minus, Invert, Not}
use Rattle.lz_base.specs.declared.operator.Binary.{Binary}
use Rattle.lz_base.specs.declared.operator.Binary.TheVariants.{Mul, Div, Rem, Add, Sub, Shl, Shr, Lt, Gt, Le, Ge, Eq, Ne, BitAnd, BitXor, BitOr, Both, Either}
use Rattle.lz_base.specs.declared.word.IntType.{IntType}
use Rattle.lz_base.specs.Words.{value_bound, signed, wrapped, is_true, truth, unary_value, binary_value, converted}

-- a truth value is a word
pub truth_word : (test : Bool) → truth test < value_bound
truth_word true = omega arith
truth_word false = omega arith

-- what a whole number wraps to is a word
pub wrapped_word : (z : ℤ) → wrapped z < value_bound
wrapped_word (pos n) = omega arith
wrapped_word (negsuc n) = omega arith

-- a value or 0 is a word where the value is
chosen_word : (test : Bool) (value : ℕ) → value < value_bound → (if test then 0 else value) < value_bound
chosen_word true value word = omega arith
chosen_word false value word = word

-- a choice of words is a word
pub choose_word : (test : Bool) (a b : ℕ) → a < value_bound → b < value_bound → cond test a b < value_bound
choose_word true a b left right = left
choose_word false a b left right = right

-- the conjunction of two truth values, as words
pub both_truths : (a b : Bool) → truth (is_true (truth a) && is_true (truth b)) ≡ truth (a && b)
both_truths true true = refl
both_truths true false = refl
both_truths false true = refl
both_truths false false = refl

-- the value of a unary operator at a word is a word
pub unary_word : (op : Unary) (a : ℕ) (t : IntType) → a < value_bound → unary_value op a t < value_bound
unary_word Plus a t word = word
unary_word Minus a t word = omega arith
unary_word Invert a t word = omega arith
unary_word Not a t word = truth_word (a == 0)

-- the value of a binary operator at two words is a word
pub binary_word : (op : Binary) (a b : ℕ) (t : IntType) → a < value_bound → b < value_bound → binary_value op a b t < value_bound
binary_word Mul a b t left right = omega arith
binary_word Div a b t left right = chosen_word (b == 0) (wrapped (int_div (signed t a) (signed t b))) (wrapped_word (int_div (signed t a) (signed t b)))
binary_word Rem a b t left right = chosen_word (b == 0) (wrapped (int_rem (signed t a) (signed t b))) (wrapped_word (int_rem (signed t a) (signed t b)))
binary_word Add a b t left right = omega arith
binary_word Sub a b t left right = omega arith
binary_word Shl a b t left right = omega arith
binary_word Shr a b t left right = wrapped_word (int_shr (signed t a) (b % 32))
binary_word Lt a b t left right = truth_word (int_lt (signed t a) (signed t b))
binary_word Gt a b t left right = truth_word (int_lt (signed t b) (signed t a))
binary_word Le a b t left right = truth_word (not (int_lt (signed t b) (signed t a)))
binary_word Ge a b t left right = truth_word (not (int_lt (signed t a) (signed t b)))
binary_word Eq a b t left right = truth_word (a == b)
binary_word Ne a b t left right = truth_word (not (a == b))
binary_word BitAnd a b t left right = omega (arith, and_le_l a b)
binary_word BitXor a b t left right = xor_lt 32 a b left right
binary_word BitOr a b t left right = or_lt 32 a b left right
binary_word Both a b t left right = truth_word (is_true a && is_true b)
binary_word Either a b t left right = truth_word (is_true a || is_true b)

-- a converted word is a word
pub converted_word : (a : ℕ) (from to : IntType) → a < value_bound → converted a from to < value_bound
converted_word a from to word = word
