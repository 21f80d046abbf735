-- Inner: reading expressions from the left, by height and class (C99 6.5).
use Rattle.std.specs.Prelude.{◌≡◌, ℕ, zero, suc, ◌==◌, Bool, true, false, ◌&&◌, ◌||◌, not, nat_lt, List, [], ◌∷◌, length, Option, Some, None, Result, Ok, Err, if◌then◌else◌}
use denote.Enum.Bare.{sameb}
use Rattle.lz_expr.specs.Reading.{Outcome, gives, refused, Reader, and_then, ◌>>=◌, pure, refuse, token, starts, shows, until, grown, row_of_operators}
use Rattle.lz_tree.specs.declared.token.Token.{Token}
use Rattle.lz_tree.specs.declared.token.TokenKind.{TokenKind}
use Rattle.lz_tree.specs.declared.token.TokenKind.TheVariants as kinds
use Rattle.lz_tree.specs.declared.token.Keyword.{Keyword}
use Rattle.lz_tree.specs.declared.token.Keyword.TheVariants as keys
use Rattle.lz_tree.specs.declared.token.Punct.{Punct}
use Rattle.lz_tree.specs.declared.token.Punct.TheVariants as marks
use Rattle.lz_base.specs.declared.operator.Binary.{Binary}
use Rattle.lz_base.specs.declared.operator.Unary.{Unary}
use Rattle.lz_tree.specs.declared.expression.Target.{Target}
use Rattle.lz_tree.specs.declared.expression.TypeName.{TypeName}
use Rattle.lz_tree.specs.declared.expression.TypeName.TheVariants as types
use Rattle.lz_tree.specs.Languages.{is_mark, is_key, mark_shown, key_shown, name_shown, meant_by, line_at, same_key}
use Rattle.lz_tree.specs.Spelling.{sign_of, operator_of, assigning_of, step_of}
use Rattle.lz_tree.specs.Trees.{Expression, constant, null, text, object, address, paren, unary, cast, binary, choose, assign, step, call, whole, element, Expressions, expressions_of, index_of}
use Rattle.lz_tree.specs.Height.{expression_height}
use Rattle.lz_tree.specs.WellFormed.{looseness}
use Rattle.lz_expr.specs.declared.refusal.Refusal.{Refusal}
use Rattle.lz_expr.specs.declared.refusal.Refusal.TheVariants.{Refused, Memory}
use Rattle.lz_expr.specs.declared.opening.Opening.{Opening}
use Rattle.lz_expr.specs.declared.opening.Opening.TheVariants as opening
use Rattle.lz_expr.specs.contracts.opening.Opening as the_opening

-- ---- tokens

-- the line of a punctuator, the line of a keyword
abbrev pub mark : Punct → Reader Token ℕ
mark p = token (mark_shown p)

abbrev pub key : Keyword → Reader Token ℕ
key k = token (key_shown k)

-- the punctuator, or the keyword, comes first
abbrev pub begins : Punct → List Token → Bool
begins p = starts (is_mark p)

abbrev pub begins_key : Keyword → List Token → Bool
begins_key k = starts (is_key k)

abbrev pub with_line : {A : Type 0} → ℕ → Option A → Option (ℕ × A)
with_line line None = None
with_line line (Some x) = Some (line, x)

-- what a token shows, with its line
unfoldable pub lined_shown : {A : Type 0} → (Token → Option A) → Token → Option (ℕ × A)
lined_shown show c = with_line c.line (show c)

-- a name with its line
abbrev pub name : Reader Token (ℕ × ℕ)
name = token (lined_shown name_shown)

-- an expression of one token that is no name
abbrev pub leaf_of : ℕ → TokenKind → Option Expression
leaf_of line (kinds.Name number) = None
leaf_of line (kinds.Constant value form) = Some (constant line value form)
leaf_of line kinds.Text = Some (text line)
leaf_of line (kinds.Keyword word) = if same_key word keys.Null then Some (null line) else None
leaf_of line (kinds.Punct mark) = None

unfoldable pub leaf_shown : Token → Option Expression
leaf_shown c = leaf_of c.line c.kind

-- a unary operator with its line
abbrev pub sign : Reader Token (ℕ × Unary)
sign = token (lined_shown (meant_by sign_of))

abbrev pub of_level : ℕ → Option Binary → Option Binary
of_level n None = None
of_level n (Some op) = if looseness op == n then Some op else None

-- a binary operator of the level
unfoldable pub operator_shown : ℕ → Token → Option Binary
operator_shown n c = of_level n (meant_by operator_of c)

-- `++` or `--` with its line
abbrev pub step_shown : Token → Option (ℕ × Bool)
step_shown = lined_shown (meant_by step_of)

abbrev pub with_rest : {A : Type 0} → List Token → Option A → Option (A × List Token)
with_rest rest None = None
with_rest rest (Some x) = Some (x, rest)

-- what the first token shows, and what stands behind it
unfoldable pub shown_at : {A : Type 0} → (Token → Option A) → List Token → Option (A × List Token)
shown_at show [] = None
shown_at show (c ∷ rest) = with_rest rest (show c)

-- which expressions a token begins
abbrev pub opening_key : Keyword → Opening
opening_key keys.Null = opening.Leaf
opening_key _ = opening.Nothing

abbrev pub opening_mark : Punct → Opening
opening_mark marks.OpenParen = opening.Paren
opening_mark marks.Plus = opening.Sign
opening_mark marks.Minus = opening.Sign
opening_mark marks.Tilde = opening.Sign
opening_mark marks.Not = opening.Sign
opening_mark marks.And = opening.Address
opening_mark marks.Increment = opening.Step
opening_mark marks.Decrement = opening.Step
opening_mark _ = opening.Nothing

abbrev pub opening_of : TokenKind → Opening
opening_of (kinds.Name number) = opening.Name
opening_of (kinds.Constant value form) = opening.Leaf
opening_of kinds.Text = opening.Leaf
opening_of (kinds.Keyword word) = opening_key word
opening_of (kinds.Punct mark) = opening_mark mark

unfoldable pub opens : Opening → Token → Bool
opens o c = sameb the_opening.the_type (opening_of c.kind) o

-- ---- types

-- an integer type of one word (C99 6.7.2)
abbrev pub integer_key : Keyword → Option TypeName
integer_key keys.Int = Some types.Int
integer_key keys.Signed = Some types.Signed
integer_key keys.Unsigned = Some types.Unsigned
integer_key keys.Bool = Some types.Bool
integer_key keys.Char = Some types.Char
integer_key keys.Short = Some types.Short
integer_key keys.Long = Some types.Long
integer_key _ = None

abbrev pub key_in : {A : Type 0} → (Keyword → Option A) → TokenKind → Option A
key_in f (kinds.Keyword word) = f word
key_in f _ = None

-- what a keyword stands for
unfoldable pub key_meant : {A : Type 0} → (Keyword → Option A) → Token → Option A
key_meant f c = key_in f c.kind

abbrev pub signed_by : Keyword → Option TypeName
signed_by keys.Int = Some types.SignedInt
signed_by keys.Char = Some types.SignedChar
signed_by _ = None

abbrev pub unsigned_by : Keyword → Option TypeName
unsigned_by keys.Int = Some types.UnsignedInt
unsigned_by keys.Char = Some types.UnsignedChar
unsigned_by keys.Short = Some types.UnsignedShort
unsigned_by keys.Long = Some types.UnsignedLong
unsigned_by _ = None

-- the type with `int` behind it
abbrev pub with_int : TypeName → Keyword → Option TypeName
with_int t keys.Int = Some t
with_int t _ = None

-- the type with `long` or `int` behind it
abbrev pub with_long : TypeName → TypeName → Keyword → Option TypeName
with_long s t keys.Long = Some s
with_long s t keys.Int = Some t
with_long s t _ = None

abbrev pub starred : Punct → Option TypeName
starred marks.Star = Some types.VoidPointer
starred _ = None

-- the integer type that an integer type and one more word make
abbrev pub grow_integer : TypeName → Keyword → Option TypeName
grow_integer types.Signed w = signed_by w
grow_integer types.Unsigned w = unsigned_by w
grow_integer types.Short w = with_int types.ShortInt w
grow_integer types.UnsignedShort w = with_int types.UnsignedShortInt w
grow_integer types.Long w = with_long types.LongLong types.LongInt w
grow_integer types.UnsignedLong w = with_long types.UnsignedLongLong types.UnsignedLongInt w
grow_integer types.LongLong w = with_int types.LongLongInt w
grow_integer types.UnsignedLongLong w = with_int types.UnsignedLongLongInt w
grow_integer t w = None

-- the type that a type and one more punctuator make
abbrev pub grow_pointer : TypeName → Punct → Option TypeName
grow_pointer types.Void m = starred m
grow_pointer t m = None

-- the type that a type and one more token make
abbrev pub grow_by : TypeName → TokenKind → Option TypeName
grow_by t (kinds.Keyword w) = grow_integer t w
grow_by t (kinds.Punct m) = grow_pointer t m
grow_by t (kinds.Name number) = None
grow_by t (kinds.Constant value form) = None
grow_by t kinds.Text = None

unfoldable pub grow : TypeName → Token → Option TypeName
grow t c = grow_by t c.kind

-- `void *` in a cast
unfoldable pub void_pointer : Reader Token TypeName
void_pointer = do
  v ← key keys.Void
  s ← mark marks.Star
  pure types.VoidPointer

-- an integer type
unfoldable pub integer_type : Reader Token TypeName
integer_type = token (key_meant integer_key) >>= grown grow 3

-- a type that a cast may name
unfoldable pub cast_type : Reader Token TypeName
cast_type = λ ts. if begins_key keys.Void ts then void_pointer ts else integer_type ts

-- the token begins a type that a cast may name
unfoldable pub begins_type : Token → Bool
begins_type c = is_key keys.Void c || shows (key_meant integer_key c)

-- ---- what an object becomes

abbrev pub is_object : Expression → Bool
is_object (object line n i) = true
is_object e = false

-- an object that is no element may be called
abbrev pub is_whole : Expression → Bool
is_whole (object line n whole) = true
is_whole e = false

abbrev pub called : Expression → Expressions → Expression
called (object line n i) args = call line n args
called e args = e

abbrev pub stepped : Expression → Bool → Expression
stepped (object line n i) up = step line line n i up false
stepped e up = e

abbrev pub stepped_before : ℕ × Bool → Expression → Expression
stepped_before s (object line n i) = step s.0 line n i s.1 true
stepped_before s e = e

abbrev pub address_of : ℕ → Expression → Expression
address_of line (object at n i) = address line at n i
address_of line e = e

abbrev pub assigned : ℕ × Expression → Option Binary → Expression → Expression
assigned (line, object at n i) op v = assign line op at n i v
assigned (line, e) op v = e

-- ---- expressions up to a height, by class: 0 for unary, 1 to 10 for the binary levels, 11 for choose and 12 for
-- assign

module _ (inner : ℕ → Reader Token Expression) (h : ℕ) where
  -- `[ assign ]`
  unfoldable pub indexed : ℕ × ℕ → Reader Token Expression
  indexed n = do
    m ← mark marks.OpenBracket
    i ← inner 12
    e ← mark marks.CloseBracket
    pure (object n.0 n.1 (element i))

  unfoldable pub target : Reader Token Expression
  target = do
    n ← name
    λ ts. if nat_lt 0 h && begins marks.OpenBracket ts then indexed n ts else gives (object n.0 n.1 whole) ts

  -- `, assign`
  unfoldable pub next_argument : Reader Token Expression
  next_argument = do
    m ← mark marks.Comma
    inner 12

  unfoldable pub more_arguments : Reader Token (List Expression)
  more_arguments = λ ts. until (is_mark marks.CloseParen) (mark marks.CloseParen) next_argument (length ts) ts

  unfoldable pub some_arguments : Reader Token (List Expression)
  some_arguments = do
    first ← inner 12
    more ← more_arguments
    pure (first ∷ more)

  unfoldable pub no_arguments : Reader Token (List Expression)
  no_arguments = do
    m ← mark marks.CloseParen
    pure []

  -- behind the opening parenthesis
  unfoldable pub arguments : Reader Token (List Expression)
  arguments = λ ts. if starts (λ c. nat_lt 0 h && not (is_mark marks.CloseParen c)) ts then some_arguments ts else no_arguments ts

  unfoldable pub call_of : Expression → Reader Token Expression
  call_of e = do
    m ← mark marks.OpenParen
    args ← arguments
    pure (called e (expressions_of args))

  -- a target, or a call of its name
  unfoldable pub called_or_not : Reader Token Expression
  called_or_not = do
    e ← target
    λ ts. if is_whole e && begins marks.OpenParen ts then call_of e ts else gives e ts

  unfoldable pub step_behind : Expression → Reader Token Expression
  step_behind e = do
    s ← token step_shown
    pure (stepped e s.1)

  -- what begins with a name
  unfoldable pub named : Reader Token Expression
  named = do
    e ← called_or_not
    λ ts. if is_object e && starts (λ c. shows (step_shown c)) ts then step_behind e ts else gives e ts

  unfoldable pub step_before : Reader Token Expression
  step_before = do
    s ← token step_shown
    e ← target
    pure (stepped_before s e)

  unfoldable pub addressed : Reader Token Expression
  addressed = do
    line ← mark marks.And
    e ← target
    pure (address_of line e)

  unfoldable pub signed : Reader Token Expression
  signed = do
    s ← sign
    e ← inner 0
    pure (unary s.0 s.1 e)

  -- behind the opening parenthesis
  unfoldable pub cast_from : ℕ → Reader Token Expression
  cast_from line = do
    to ← cast_type
    m ← mark marks.CloseParen
    e ← inner 0
    pure (cast line to e)

  unfoldable pub paren_from : ℕ → Reader Token Expression
  paren_from line = do
    e ← inner 12
    m ← mark marks.CloseParen
    pure (paren line e)

  unfoldable pub parenthesized : Reader Token Expression
  parenthesized = do
    line ← mark marks.OpenParen
    λ ts. if starts begins_type ts then cast_from line ts else paren_from line ts

  unfoldable pub prefix : Reader Token Expression
  prefix = λ ts.
      if starts (λ c. opens opening.Paren c && nat_lt 0 h) ts then parenthesized ts
      else if starts (λ c. opens opening.Sign c && nat_lt 0 h) ts then signed ts
      else if starts (opens opening.Address) ts then addressed ts
      else if starts (opens opening.Step) ts then step_before ts
      else if starts (opens opening.Name) ts then named ts
      else token leaf_shown ts

  -- a row of operators of the level and their operands
  abbrev pub operations : ℕ → Reader Token Expression → Reader Token Expression
  operations c tighter = row_of_operators expression_height (operator_shown (suc c)) binary (suc h) line_at tighter (inner c)

  unfoldable pub chosen : ℕ × Expression → Reader Token Expression
  chosen test = do
    m ← mark marks.Question
    a ← inner 12
    k ← mark marks.Colon
    b ← inner 11
    pure (choose test.0 test.1 a b)

  unfoldable pub conditional : Reader Token Expression → Reader Token Expression
  conditional tighter = (λ ts. and_then (tighter ts) (λ e. pure {A = ℕ × Expression} (line_at ts, e)))
      >>= (λ p ts. if nat_lt (expression_height p.1) (suc h) && begins marks.Question ts then chosen p ts else gives p.1 ts)

  unfoldable pub value_of : ℕ × Expression → Reader Token Expression
  value_of at = do
    op ← token (meant_by assigning_of)
    v ← inner 12
    pure (assigned at op v)

  unfoldable pub assignment : Reader Token Expression → Reader Token Expression
  assignment tighter = (λ ts. and_then (tighter ts) (λ e. pure {A = ℕ × Expression} (line_at ts, e)))
      >>= (λ p ts. if (is_object p.1 && nat_lt 0 h) && starts (λ c. shows (meant_by assigning_of c)) ts then value_of p ts else gives p.1 ts)

  abbrev pub by_class : ℕ → Reader Token Expression → Reader Token Expression
  by_class c tighter = if c == 10 then conditional tighter else if c == 11 then assignment tighter else operations c tighter

  unfoldable pub classes : ℕ → Reader Token Expression
  classes zero = prefix
  classes (suc c) = by_class c (classes c)

unfoldable pub expr : ℕ → ℕ → Reader Token Expression
expr zero c = refuse
expr (suc h) c = classes (expr h) h c

-- ---- what a function that reads returns

abbrev pub Fails : {Y : Type 0} → Refusal → Outcome Token Y → Type 0
Fails (Refused left) o = o ≡ refused left
Fails Memory o = Unit {0}

abbrev pub Reads : {X Y : Type 0} → (X → Y × List Token) → Result X Refusal → Outcome Token Y → Type 0
Reads view (Ok x) o = o ≡ gives (view x).0 (view x).1
Reads view (Err e) o = Fails e o

-- the object that a target is
abbrev pub object_of : Target → Expression
object_of t = object t.line t.name (index_of t.index)

-- an argument may come next
abbrev pub begins_argument : ℕ → Token → Bool
begins_argument h c = nat_lt 0 h && not (is_mark marks.CloseParen c)
