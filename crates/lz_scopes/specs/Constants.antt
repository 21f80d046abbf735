-- Trusted: constant expressions and their values (C99 6.6): the type of a constant (6.4.4.1), and the kind in which an operator computes (6.3.1.8).
use Rattle.std.specs.Prelude.{◌≡◌, ℕ, ◌%◌, ◌==◌, nat_lt, nat_le, Bool, true, false, not, ◌&&◌, ◌||◌, Option, Some, None, if◌then◌else◌, IsTrue}
use Rattle.lz_base.specs.declared.word.IntType.{IntType}
use Rattle.lz_base.specs.declared.word.IntType.TheVariants.{Int, Unsigned}
use Rattle.lz_base.specs.declared.operator.Unary.{Unary}
use Rattle.lz_base.specs.declared.operator.Unary.TheVariants.{Plus, Minus, Invert, Not}
use Rattle.lz_base.specs.declared.operator.Binary.{Binary}
use Rattle.lz_base.specs.declared.operator.Binary.TheVariants.{Mul, Div, Rem, Add, Sub, Shl, Shr, Lt, Gt, Le, Ge, Eq, Ne, BitAnd, BitXor, BitOr, Both, Either}
use Rattle.lz_base.specs.Limits.{length_limit}
use Rattle.lz_base.specs.Words.{unary_value, binary_value, converted, is_true, value_bound, sign_bound}
use Rattle.lz_tree.specs.declared.token.Form.{Form}
use Rattle.lz_tree.specs.declared.expression.TypeName.{TypeName}
use Rattle.lz_tree.specs.Trees.{Expression, constant, null, text, object, address, paren, unary, cast, binary, choose, assign, step, call, Expressions, none, and, Initializer, nothing, single, listed, mutex, cond}
use Rattle.lz_scopes.specs.declared.value_types.ValueType.{ValueType}
use Rattle.lz_scopes.specs.declared.value_types.ValueType.TheVariants.{Integer, Pointer, Nothing, Thread, Mutex, Cond, Function}
use Rattle.lz_scopes.specs.declared.constant.Word.{Word}
use Rattle.lz_scopes.specs.ValueTypes.{value_type, is_refused}

-- ---- kinds

-- the kind of two operands together: `unsigned int` where one has it
abbrev pub joint : IntType → IntType → IntType
joint Int Int = Int
joint Int Unsigned = Unsigned
joint Unsigned kind = Unsigned

-- the kind in which an operator computes: a shift in that of its left operand, each other in that of both
abbrev pub operand_kind : Binary → IntType → IntType → IntType
operand_kind Shl left right = left
operand_kind Shr left right = left
operand_kind _ left right = joint left right

-- the kind of what an operator gives: comparisons, `&&` and `||` give an `int`
abbrev pub binary_kind : Binary → IntType → IntType → IntType
binary_kind Lt left right = Int
binary_kind Gt left right = Int
binary_kind Le left right = Int
binary_kind Ge left right = Int
binary_kind Eq left right = Int
binary_kind Ne left right = Int
binary_kind Both left right = Int
binary_kind Either left right = Int
binary_kind op left right = operand_kind op left right

abbrev pub unary_kind : Unary → IntType → IntType
unary_kind Not kind = Int
unary_kind _ kind = kind

-- ---- constants

-- a constant without `l` is too large for its type: it is no word, or decimal without `u` and no `int`
abbrev pub is_large : ℕ → Form → Bool
is_large value form =
    form.longs == 0 && (nat_le value_bound value || (form.decimal && not form.unsigned && nat_le sign_bound value))

-- a constant has a suffix with `l`
abbrev pub has_longs : Form → Bool
has_longs form = not (form.longs == 0)

-- the kind of a constant; one with a fault counts as `int`
abbrev pub constant_kind : ℕ → Form → IntType
constant_kind value form =
    if is_large value form || has_longs form then Int
    else if form.unsigned then Unsigned
    else if form.decimal || nat_lt value sign_bound then Int
    else Unsigned

-- ---- values

-- the word that a value is as an operand
abbrev pub word : ℕ → ℕ
word value = value % value_bound

abbrev pub is_division : Binary → Bool
is_division Div = true
is_division Rem = true
is_division _ = false

abbrev pub unary_word : Unary → Option Word → Option Word
unary_word op None = None
unary_word op (Some a) = Some (record { kind = unary_kind op a.kind; value = unary_value op (word a.value) a.kind })

abbrev pub kind_cast : ValueType → Option IntType
kind_cast (Integer kind) = Some kind
kind_cast _ = None

abbrev pub converted_word : Option IntType → Word → Option Word
converted_word None a = None
converted_word (Some kind) a = Some (record { kind = kind; value = converted (word a.value) a.kind kind })

-- a cast to an integer type
abbrev pub cast_word : TypeName → Option Word → Option Word
cast_word to None = None
cast_word to (Some a) = converted_word (kind_cast (value_type to)) a

-- no constant where the divisor is 0
abbrev pub joined_word : Binary → Word → Word → Option Word
joined_word op a b =
    if is_division op && word b.value == 0 then None
    else Some (record {
      kind = binary_kind op a.kind b.kind;
      value = binary_value op (word a.value) (word b.value) (operand_kind op a.kind b.kind);
    })

abbrev pub binary_word : Binary → Option Word → Option Word → Option Word
binary_word op None right = None
binary_word op (Some a) None = None
binary_word op (Some a) (Some b) = joined_word op a b

-- the chosen one of two, in the kind of both
abbrev pub chosen_word : Bool → Word → Word → Word
chosen_word test a b = record {
  kind = joint a.kind b.kind;
  value = if test then converted (word a.value) a.kind (joint a.kind b.kind) else converted (word b.value) b.kind (joint a.kind b.kind);
}

abbrev pub choose_word : Option Word → Option Word → Option Word → Option Word
choose_word None first second = None
choose_word (Some t) None second = None
choose_word (Some t) (Some a) None = None
choose_word (Some t) (Some a) (Some b) = Some (chosen_word (is_true (word t.value)) a b)

-- The value of a constant expression, with its kind: of constants, parentheses, unary and binary operators, `?:` and
-- casts to integer types. Each part counts, also one that is not evaluated. A value that is no word is one of a
-- constant that is too large.
unfoldable pub constant_value : Expression → Option Word
constant_value (constant line value form) = Some (record { kind = constant_kind value form; value = value })
constant_value (null line) = None
constant_value (text line) = None
constant_value (object line name index) = None
constant_value (address line at name index) = None
constant_value (paren line inner) = constant_value inner
constant_value (unary line op of) = unary_word op (constant_value of)
constant_value (cast line to of) = cast_word to (constant_value of)
constant_value (binary line op left right) = binary_word op (constant_value left) (constant_value right)
constant_value (choose line test first second) = choose_word (constant_value test) (constant_value first) (constant_value second)
constant_value (assign line op at name index value) = None
constant_value (step line at name index up before) = None
constant_value (call line name args) = None

-- it is a constant expression
abbrev pub is_constant : Option Word → Bool
is_constant None = false
is_constant (Some a) = true

abbrev pub are_constant : Expressions → Bool
are_constant none = true
are_constant (and e rest) = is_constant (constant_value e) && are_constant rest

-- an initializer is made of constant expressions
abbrev pub is_constant_initializer : Initializer → Bool
is_constant_initializer nothing = true
is_constant_initializer (single e) = is_constant (constant_value e)
is_constant_initializer (listed values comma) = are_constant values
is_constant_initializer mutex = true
is_constant_initializer cond = true

-- ---- lengths

-- the length that a constant gives to an array, where it is one
abbrev pub length_in : Option Word → Option ℕ
length_in None = None
length_in (Some a) = if nat_le 1 a.value && nat_le a.value length_limit then Some a.value else None

-- the number of elements of an object: 1 where it is no array, or has no right length
abbrev pub elements : Option Expression → ℕ
elements None = 1
elements (Some e) = elements_of (length_in (constant_value e))
  where
    elements_of : Option ℕ → ℕ
    elements_of None = 1
    elements_of (Some n) = n

-- it is an array without a right length: not a constant expression, or out of range
abbrev pub is_bad_length : Option Expression → Bool
is_bad_length None = false
is_bad_length (Some e) = bad (length_in (constant_value e))
  where
    bad : Option ℕ → Bool
    bad None = true
    bad (Some n) = false
