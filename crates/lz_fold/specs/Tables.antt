-- Inner: what operators come to at certain words, as tables.
use Rattle.std.specs.Prelude.{ℕ, Bool, true, false, Option, None, Some}
use Rattle.lz_base.specs.declared.operator.Binary.{Binary}
use Rattle.lz_base.specs.declared.operator.Binary.TheVariants.{Mul, Div, Rem, Add, Sub, Shl, Shr, Lt, Gt, Le, Ge, Eq, Ne, BitAnd, BitXor, BitOr, Both, Either}

-- the word that as the right operand leaves the left one as it is
abbrev pub right_unit : Binary → Option ℕ
right_unit Mul = Some 1
right_unit Div = None
right_unit Rem = None
right_unit Add = Some 0
right_unit Sub = Some 0
right_unit Shl = Some 0
right_unit Shr = None
right_unit Lt = None
right_unit Gt = None
right_unit Le = None
right_unit Ge = None
right_unit Eq = None
right_unit Ne = None
right_unit BitAnd = Some 4294967295
right_unit BitXor = Some 0
right_unit BitOr = Some 0
right_unit Both = None
right_unit Either = None

-- the word that as the left operand leaves the right one as it is
abbrev pub left_unit : Binary → Option ℕ
left_unit Mul = Some 1
left_unit Div = None
left_unit Rem = None
left_unit Add = Some 0
left_unit Sub = None
left_unit Shl = None
left_unit Shr = None
left_unit Lt = None
left_unit Gt = None
left_unit Le = None
left_unit Ge = None
left_unit Eq = None
left_unit Ne = None
left_unit BitAnd = Some 4294967295
left_unit BitXor = Some 0
left_unit BitOr = Some 0
left_unit Both = None
left_unit Either = None

-- an operand of 0, on either side, makes it 0
abbrev pub absorbs : Binary → Bool
absorbs Mul = true
absorbs Div = false
absorbs Rem = false
absorbs Add = false
absorbs Sub = false
absorbs Shl = false
absorbs Shr = false
absorbs Lt = false
absorbs Gt = false
absorbs Le = false
absorbs Ge = false
absorbs Eq = false
absorbs Ne = false
absorbs BitAnd = true
absorbs BitXor = false
absorbs BitOr = false
absorbs Both = true
absorbs Either = false

-- what it comes to at two equal operands, where that is one word
abbrev pub of_equals : Binary → Option ℕ
of_equals Mul = None
of_equals Div = None
of_equals Rem = None
of_equals Add = None
of_equals Sub = Some 0
of_equals Shl = None
of_equals Shr = None
of_equals Lt = Some 0
of_equals Gt = Some 0
of_equals Le = Some 1
of_equals Ge = Some 1
of_equals Eq = Some 1
of_equals Ne = Some 0
of_equals BitAnd = None
of_equals BitXor = Some 0
of_equals BitOr = None
of_equals Both = None
of_equals Either = None

-- at two equal operands it comes to these
abbrev pub keeps_equals : Binary → Bool
keeps_equals Mul = false
keeps_equals Div = false
keeps_equals Rem = false
keeps_equals Add = false
keeps_equals Sub = false
keeps_equals Shl = false
keeps_equals Shr = false
keeps_equals Lt = false
keeps_equals Gt = false
keeps_equals Le = false
keeps_equals Ge = false
keeps_equals Eq = false
keeps_equals Ne = false
keeps_equals BitAnd = true
keeps_equals BitXor = false
keeps_equals BitOr = true
keeps_equals Both = false
keeps_equals Either = false
