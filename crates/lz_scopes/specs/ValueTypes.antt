-- Trusted: what the spelled types are, which of them are refused and which two are one type, and which type fits a place that wants a value (C99 6.2.5, 6.3 and 6.7.2).
use Rattle.std.specs.Prelude.{Bool, true, false, ◌&&◌, List, [], ◌∷◌}
use denote.Enum.Bare.{sameb}
use Rattle.lz_base.specs.declared.word.IntType.{IntType}
use Rattle.lz_base.specs.declared.word.IntType.TheVariants as kinds
use Rattle.lz_tree.specs.declared.expression.TypeName.{TypeName}
use Rattle.lz_tree.specs.declared.expression.TypeName.TheVariants as types
use Rattle.lz_tree.specs.contracts.expression.TypeName as type_name
use Rattle.lz_scopes.specs.declared.value_types.ValueType.{ValueType}
use Rattle.lz_scopes.specs.declared.value_types.ValueType.TheVariants.{Integer, Pointer, Nothing, Thread, Mutex, Cond, Function}
use Rattle.lz_scopes.specs.declared.value_types.Want.{Want}
use Rattle.lz_scopes.specs.declared.value_types.Want.TheVariants as wants
use Rattle.lz_scopes.specs.declared.fault.Rule.{Rule}
use Rattle.lz_scopes.specs.declared.fault.Rule.TheVariants.{NoValue, TypeMisfit}

-- ---- spelled types

-- a type is spelled with `_Bool`, `char`, `short` or `long`, which the language leaves out
abbrev pub is_refused : TypeName → Bool
is_refused types.Int = false
is_refused types.Signed = false
is_refused types.SignedInt = false
is_refused types.Unsigned = false
is_refused types.UnsignedInt = false
is_refused types.Void = false
is_refused types.VoidPointer = false
is_refused types.Thread = false
is_refused types.Mutex = false
is_refused types.Cond = false
is_refused _ = true

-- what an object of a type is; a type that is refused counts as `int`
abbrev pub value_type : TypeName → ValueType
value_type types.Unsigned = Integer kinds.Unsigned
value_type types.UnsignedInt = Integer kinds.Unsigned
value_type types.Void = Nothing
value_type types.VoidPointer = Pointer
value_type types.Thread = Thread
value_type types.Mutex = Mutex
value_type types.Cond = Cond
value_type _ = Integer kinds.Int

-- one spelling for each type: C99 6.7.2 has several for most, and plain `char` is signed here
abbrev pub same_type : TypeName → TypeName
same_type types.Signed = types.Int
same_type types.SignedInt = types.Int
same_type types.UnsignedInt = types.Unsigned
same_type types.SignedChar = types.Char
same_type types.ShortInt = types.Short
same_type types.UnsignedShortInt = types.UnsignedShort
same_type types.LongInt = types.Long
same_type types.UnsignedLongInt = types.UnsignedLong
same_type types.LongLongInt = types.LongLong
same_type types.UnsignedLongLongInt = types.UnsignedLongLong
same_type other = other

-- two spellings are one type
unfoldable pub are_one_type : TypeName → TypeName → Bool
are_one_type a b = sameb type_name.the_type (same_type a) (same_type b)

-- and so are two lists of them, one by one
abbrev pub are_one_list : List TypeName → List TypeName → Bool
are_one_list [] [] = true
are_one_list [] (b ∷ bs) = false
are_one_list (a ∷ as') [] = false
are_one_list (a ∷ as') (b ∷ bs) = are_one_type a b && are_one_list as' bs

-- ---- what things are

abbrev pub is_pointer : ValueType → Bool
is_pointer Pointer = true
is_pointer _ = false

abbrev pub is_nothing : ValueType → Bool
is_nothing Nothing = true
is_nothing _ = false

abbrev pub is_integer : ValueType → Bool
is_integer (Integer kind) = true
is_integer _ = false

abbrev pub is_thread : ValueType → Bool
is_thread Thread = true
is_thread _ = false

abbrev pub is_mutex : ValueType → Bool
is_mutex Mutex = true
is_mutex _ = false

abbrev pub is_cond : ValueType → Bool
is_cond Cond = true
is_cond _ = false

-- a mutex or a condition
abbrev pub is_lock : ValueType → Bool
is_lock Mutex = true
is_lock Cond = true
is_lock _ = false

-- an object for threads, or a function: nothing that an expression reads or writes
abbrev pub is_no_operand : ValueType → Bool
is_no_operand (Integer kind) = false
is_no_operand Pointer = false
is_no_operand Nothing = false
is_no_operand _ = true

-- the kind of the words of a value: that of an integer, and the widest unsigned kind for a `void *`
abbrev pub kind_of : ValueType → IntType
kind_of (Integer kind) = kind
kind_of _ = kinds.Unsigned

-- what an expression counts as that has a fault: `int`
abbrev pub counted : ValueType
counted = Integer kinds.Int

-- ---- what a place wants

-- the rule, as a list of none or one, that is broken where the test holds
abbrev pub when : Bool → Rule → List Rule
when true rule = rule ∷ []
when false rule = []

-- what a place wants that takes a value of a type
abbrev pub want_of : ValueType → Want
want_of (Integer kind) = wants.Integer
want_of Pointer = wants.Pointer
want_of _ = wants.Any

-- the rule that is broken where something of a type stands at a place: a value is needed, or one of another type.
-- What an expression neither reads nor writes fits nowhere.
abbrev pub clash : Want → ValueType → List Rule
clash want Thread = TypeMisfit ∷ []
clash want Mutex = TypeMisfit ∷ []
clash want Cond = TypeMisfit ∷ []
clash want Function = TypeMisfit ∷ []
clash wants.Unneeded Nothing = []
clash want Nothing = NoValue ∷ []
clash wants.Pointer (Integer kind) = TypeMisfit ∷ []
clash want (Integer kind) = []
clash wants.Integer Pointer = TypeMisfit ∷ []
clash want Pointer = []
