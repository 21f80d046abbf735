-- Inner: how many variables and clauses the circuit of each operator adds at most.
use Rattle.std.specs.Prelude.{ℕ, ◌+◌, ◌*◌}
use Rattle.lz_base.specs.declared.operator.Unary.{Unary}
use Rattle.lz_base.specs.declared.operator.Unary.TheVariants.{Plus, Minus, Invert, Not}
use Rattle.lz_base.specs.declared.operator.Binary.{Binary}
use Rattle.lz_base.specs.declared.operator.Binary.TheVariants.{Mul, Div, Rem, Add, Sub, Shl, Shr, Lt, Gt, Le, Ge, Eq, Ne, BitAnd, BitXor, BitOr, Both, Either}
use Rattle.lz_base.specs.declared.word.IntType.{IntType}

-- how many bits a word has
abbrev pub word_width : ℕ
word_width = 32

-- how many bits a word of a type has
abbrev pub width : IntType → ℕ
width t = word_width

-- of a unary operator
abbrev pub unary_variables : Unary → ℕ
unary_variables Plus = 0
unary_variables Minus = 96
unary_variables Invert = 0
unary_variables Not = 1

-- its clauses
abbrev pub unary_clauses : Unary → ℕ
unary_clauses Plus = 0
unary_clauses Minus = 448
unary_clauses Invert = 0
unary_clauses Not = 33

-- of a binary operator
abbrev pub binary_variables : Binary → ℕ
binary_variables Mul = 4096
binary_variables Div = 4610
binary_variables Rem = 4610
binary_variables Add = 96
binary_variables Sub = 96
binary_variables Shl = 160
binary_variables Shr = 160
binary_variables Lt = 64
binary_variables Gt = 64
binary_variables Le = 64
binary_variables Ge = 64
binary_variables Eq = 33
binary_variables Ne = 33
binary_variables BitAnd = 32
binary_variables BitXor = 32
binary_variables BitOr = 32
binary_variables Both = 3
binary_variables Either = 3

-- its clauses
abbrev pub binary_clauses : Binary → ℕ
binary_clauses Mul = 17408
binary_clauses Div = 22981
binary_clauses Rem = 22981
binary_clauses Add = 448
binary_clauses Sub = 448
binary_clauses Shl = 960
binary_clauses Shr = 960
binary_clauses Lt = 320
binary_clauses Gt = 320
binary_clauses Le = 320
binary_clauses Ge = 320
binary_clauses Eq = 161
binary_clauses Ne = 161
binary_clauses BitAnd = 128
binary_clauses BitXor = 128
binary_clauses BitOr = 128
binary_clauses Both = 69
binary_clauses Either = 69

-- of a quotient or a remainder of two words, where the divisor is not 0: a step for each bit, the sign of the
-- result, and a change of sign of each word and of the result
abbrev pub division_variables : ℕ
division_variables = (4 * word_width + 3) * word_width + 3 * (4 * word_width) + 1

-- its clauses
abbrev pub division_clauses : ℕ
division_clauses = (20 * word_width + 14) * word_width + 3 * (20 * word_width) + 4

-- of the truth test of a word of so many bits
abbrev pub test_variables : ℕ
test_variables = 1

-- its clauses
abbrev pub test_clauses : ℕ → ℕ
test_clauses width = width + 1

-- of a choice between words of so many bits
abbrev pub choice_variables : ℕ → ℕ
choice_variables width = width

-- its clauses
abbrev pub choice_clauses : ℕ → ℕ
choice_clauses width = 6 * width
