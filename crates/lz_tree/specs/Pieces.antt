-- Trusted: the pieces that the bytes of a file are cut into (C99 6.4): which piece some bytes are, if they are one.
use Rattle.std.specs.Prelude.{ℕ, ◌^◌, ◌==◌, nat_le, nat_lt, Bool, true, false, not, ◌&&◌, ◌||◌, List, [], ◌∷◌, length, take, drop, codes, if◌then◌else◌, Option, Some, None, is_some, option_map, find}
use Rattle.std.specs.Char.{is_ascii_digit, is_ascii_hexdigit, is_ascii_alphabetic}
use Rattle.std.specs.List.{list_all, prefix_len, starts_with}
use Rattle.std.specs.Option.{option_and_then, option_or}
use Rattle.std.specs.Str.{bytes_eq}
use Rattle.std.specs.Str.Parse.{digits_value}
use Rattle.lz_tree.specs.declared.token.Form.{Form}
use Rattle.lz_tree.specs.declared.token.Keyword.{Keyword}
use Rattle.lz_tree.specs.declared.token.Keyword.TheVariants as keys
use Rattle.lz_tree.specs.declared.token.Punct.{Punct}
use Rattle.lz_tree.specs.declared.token.Punct.TheVariants as marks

-- A constant: its value and how it is written.
pub record ConstantPiece : Type 0 where
  pub value : ℕ
  pub form : Form

-- What a defined name stands for: a constant, with `-` before it or without, in parentheses or not.
pub record Body : Type 0 where
  pub wrapped : Bool
  pub negated : Bool
  pub constant : ConstantPiece

-- A piece. A directive that defines a name has the name's body, unless that is empty.
pub data Piece : Type 0 where
  white : (byte : ℕ) → Piece
  block_comment : Piece
  line_comment : Piece
  include : Piece
  define : (name : List ℕ) (body : Option Body) → Piece
  word : (letters : List ℕ) → Piece
  integer : (constant : ConstantPiece) → Piece
  character : (constant : ConstantPiece) → Piece
  text : Piece
  mark : (punct : Punct) → Piece

-- ---- bytes

-- there are bytes, and the first passes the test
abbrev pub begins : (ℕ → Bool) → List ℕ → Bool
begins test [] = false
begins test (byte ∷ rest) = test byte

abbrev pub is : ℕ → ℕ → Bool
is code byte = byte == code

-- a newline
abbrev pub is_newline : ℕ → Bool
is_newline byte = byte == 10

-- a space or a tab
abbrev pub is_blank : ℕ → Bool
is_blank byte = byte == 32 || byte == 9

-- space, tab, newline, vertical tab, form feed or carriage return (C99 6.4)
abbrev pub is_white : ℕ → Bool
is_white byte = byte == 32 || (nat_le 9 byte && nat_le byte 13)

-- what a name begins with: a letter or `_` (C99 6.4.2.1)
abbrev pub is_word_start : ℕ → Bool
is_word_start byte = is_ascii_alphabetic byte || byte == 95

-- what a name goes on with
abbrev pub is_word_byte : ℕ → Bool
is_word_byte byte = is_word_start byte || is_ascii_digit byte

-- what stands behind spaces and tabs
abbrev pub behind_blanks : List ℕ → List ℕ
behind_blanks bytes = drop (prefix_len is_blank bytes) bytes

-- ---- words and marks

-- the bytes of a keyword (C99 6.4.1)
abbrev pub keyword_text : Keyword → List ℕ
keyword_text keys.Auto = codes "auto"
keyword_text keys.Break = codes "break"
keyword_text keys.Case = codes "case"
keyword_text keys.Char = codes "char"
keyword_text keys.Const = codes "const"
keyword_text keys.Continue = codes "continue"
keyword_text keys.Default = codes "default"
keyword_text keys.Do = codes "do"
keyword_text keys.Double = codes "double"
keyword_text keys.Else = codes "else"
keyword_text keys.Enum = codes "enum"
keyword_text keys.Extern = codes "extern"
keyword_text keys.Float = codes "float"
keyword_text keys.For = codes "for"
keyword_text keys.Goto = codes "goto"
keyword_text keys.If = codes "if"
keyword_text keys.Inline = codes "inline"
keyword_text keys.Int = codes "int"
keyword_text keys.Long = codes "long"
keyword_text keys.Register = codes "register"
keyword_text keys.Restrict = codes "restrict"
keyword_text keys.Return = codes "return"
keyword_text keys.Short = codes "short"
keyword_text keys.Signed = codes "signed"
keyword_text keys.Sizeof = codes "sizeof"
keyword_text keys.Static = codes "static"
keyword_text keys.Struct = codes "struct"
keyword_text keys.Switch = codes "switch"
keyword_text keys.Typedef = codes "typedef"
keyword_text keys.Union = codes "union"
keyword_text keys.Unsigned = codes "unsigned"
keyword_text keys.Void = codes "void"
keyword_text keys.Volatile = codes "volatile"
keyword_text keys.While = codes "while"
keyword_text keys.Bool = codes "_Bool"
keyword_text keys.Complex = codes "_Complex"
keyword_text keys.Imaginary = codes "_Imaginary"
keyword_text keys.Thread = codes "pthread_t"
keyword_text keys.Mutex = codes "pthread_mutex_t"
keyword_text keys.Cond = codes "pthread_cond_t"
keyword_text keys.Null = codes "NULL"
keyword_text keys.MutexInitializer = codes "PTHREAD_MUTEX_INITIALIZER"
keyword_text keys.CondInitializer = codes "PTHREAD_COND_INITIALIZER"

abbrev pub keywords : List Keyword
keywords =
    keys.Auto ∷ keys.Break ∷ keys.Case ∷ keys.Char ∷ keys.Const ∷ keys.Continue ∷ keys.Default ∷ keys.Do ∷ keys.Double
    ∷ keys.Else ∷ keys.Enum ∷ keys.Extern ∷ keys.Float ∷ keys.For ∷ keys.Goto ∷ keys.If ∷ keys.Inline ∷ keys.Int ∷ keys.Long
    ∷ keys.Register ∷ keys.Restrict ∷ keys.Return ∷ keys.Short ∷ keys.Signed ∷ keys.Sizeof ∷ keys.Static ∷ keys.Struct
    ∷ keys.Switch ∷ keys.Typedef ∷ keys.Union ∷ keys.Unsigned ∷ keys.Void ∷ keys.Volatile ∷ keys.While ∷ keys.Bool
    ∷ keys.Complex ∷ keys.Imaginary ∷ keys.Thread ∷ keys.Mutex ∷ keys.Cond ∷ keys.Null ∷ keys.MutexInitializer
    ∷ keys.CondInitializer ∷ []

-- the keyword that these letters are
unfoldable pub keyword_of : List ℕ → Option Keyword
keyword_of letters = find (λ k. bytes_eq letters (keyword_text k)) keywords

-- the bytes of a punctuator (C99 6.4.6)
abbrev pub punct_text : Punct → List ℕ
punct_text marks.OpenParen = codes "("
punct_text marks.CloseParen = codes ")"
punct_text marks.OpenBrace = codes "{"
punct_text marks.CloseBrace = codes "}"
punct_text marks.OpenBracket = codes "["
punct_text marks.CloseBracket = codes "]"
punct_text marks.Semicolon = codes ";"
punct_text marks.Comma = codes ","
punct_text marks.Colon = codes ":"
punct_text marks.Question = codes "?"
punct_text marks.Assign = codes "="
punct_text marks.AddAssign = codes "+="
punct_text marks.SubAssign = codes "-="
punct_text marks.MulAssign = codes "*="
punct_text marks.DivAssign = codes "/="
punct_text marks.RemAssign = codes "%="
punct_text marks.AndAssign = codes "&="
punct_text marks.OrAssign = codes "|="
punct_text marks.XorAssign = codes "^="
punct_text marks.ShlAssign = codes "<<="
punct_text marks.ShrAssign = codes ">>="
punct_text marks.OrOr = codes "||"
punct_text marks.AndAnd = codes "&&"
punct_text marks.Or = codes "|"
punct_text marks.Xor = codes "^"
punct_text marks.And = codes "&"
punct_text marks.Equal = codes "=="
punct_text marks.NotEqual = codes "!="
punct_text marks.Less = codes "<"
punct_text marks.Greater = codes ">"
punct_text marks.LessEqual = codes "<="
punct_text marks.GreaterEqual = codes ">="
punct_text marks.ShiftLeft = codes "<<"
punct_text marks.ShiftRight = codes ">>"
punct_text marks.Plus = codes "+"
punct_text marks.Minus = codes "-"
punct_text marks.Star = codes "*"
punct_text marks.Slash = codes "/"
punct_text marks.Percent = codes "%"
punct_text marks.Not = codes "!"
punct_text marks.Tilde = codes "~"
punct_text marks.Increment = codes "++"
punct_text marks.Decrement = codes "--"

abbrev pub puncts : List Punct
puncts =
    marks.OpenParen ∷ marks.CloseParen ∷ marks.OpenBrace ∷ marks.CloseBrace ∷ marks.OpenBracket ∷ marks.CloseBracket
    ∷ marks.Semicolon ∷ marks.Comma ∷ marks.Colon ∷ marks.Question ∷ marks.Assign ∷ marks.AddAssign ∷ marks.SubAssign
    ∷ marks.MulAssign ∷ marks.DivAssign ∷ marks.RemAssign ∷ marks.AndAssign ∷ marks.OrAssign ∷ marks.XorAssign
    ∷ marks.ShlAssign ∷ marks.ShrAssign ∷ marks.OrOr ∷ marks.AndAnd ∷ marks.Or ∷ marks.Xor ∷ marks.And ∷ marks.Equal
    ∷ marks.NotEqual ∷ marks.Less ∷ marks.Greater ∷ marks.LessEqual ∷ marks.GreaterEqual ∷ marks.ShiftLeft
    ∷ marks.ShiftRight ∷ marks.Plus ∷ marks.Minus ∷ marks.Star ∷ marks.Slash ∷ marks.Percent ∷ marks.Not ∷ marks.Tilde
    ∷ marks.Increment ∷ marks.Decrement ∷ []

-- the punctuator that these bytes are
unfoldable pub punct_of : List ℕ → Option Punct
punct_of bytes = find (λ p. bytes_eq bytes (punct_text p)) puncts

-- ---- constants

-- A suffix (C99 6.4.4.1): whether it has a `u`, and how many `l`.
pub record Suffix : Type 0 where
  pub letters : List ℕ
  pub unsigned : Bool
  pub longs : ℕ

abbrev pub suffix : List ℕ → Bool → ℕ → Suffix
suffix letters unsigned longs = record { letters = letters; unsigned = unsigned; longs = longs }

abbrev pub suffixes : List Suffix
suffixes =
    suffix (codes "") false 0 ∷ suffix (codes "u") true 0 ∷ suffix (codes "U") true 0
    ∷ suffix (codes "l") false 1 ∷ suffix (codes "L") false 1 ∷ suffix (codes "ll") false 2 ∷ suffix (codes "LL") false 2
    ∷ suffix (codes "ul") true 1 ∷ suffix (codes "uL") true 1 ∷ suffix (codes "Ul") true 1 ∷ suffix (codes "UL") true 1
    ∷ suffix (codes "ull") true 2 ∷ suffix (codes "uLL") true 2 ∷ suffix (codes "Ull") true 2 ∷ suffix (codes "ULL") true 2
    ∷ suffix (codes "lu") true 1 ∷ suffix (codes "lU") true 1 ∷ suffix (codes "Lu") true 1 ∷ suffix (codes "LU") true 1
    ∷ suffix (codes "llu") true 2 ∷ suffix (codes "llU") true 2 ∷ suffix (codes "LLu") true 2 ∷ suffix (codes "LLU") true 2 ∷ []

-- the suffix that these letters are
unfoldable pub suffix_of : List ℕ → Option Suffix
suffix_of letters = find (λ s. bytes_eq letters s.letters) suffixes

abbrev pub is_octal_digit : ℕ → Bool
is_octal_digit byte = nat_le 48 byte && nat_le byte 55

-- a constant whose value is below 2 ^ 64
abbrev pub constant_below : ℕ → Bool → Suffix → Option ConstantPiece
constant_below value decimal s =
    if nat_lt value (2 ^ 64)
    then Some (record { value = value; form = record { decimal = decimal; unsigned = s.unsigned; longs = s.longs } })
    else None

-- digits, at least one, and then a suffix
unfoldable pub digits_of : (ℕ → Bool) → ℕ → Bool → List ℕ → Option ConstantPiece
digits_of is_digit radix decimal bytes =
    if begins is_digit bytes
    then option_and_then
    (constant_below (digits_value radix (take (prefix_len is_digit bytes) bytes)) decimal)
    (suffix_of (drop (prefix_len is_digit bytes) bytes))
    else None

abbrev pub is_x : ℕ → Bool
is_x byte = byte == 120 || byte == 88

-- an integer constant (C99 6.4.4.1): hexadecimal behind `0x` or `0X`, octal with a leading 0, otherwise decimal
unfoldable pub integer_of : List ℕ → Option ConstantPiece
integer_of bytes =
    if begins (is 48) bytes && begins is_x (drop 1 bytes) then digits_of is_ascii_hexdigit 16 false (drop 2 bytes)
    else if begins (is 48) bytes then digits_of is_octal_digit 8 false bytes
    else digits_of is_ascii_digit 10 true bytes

-- the byte that stands for itself between `'` (39): printable, no `'` and no backslash (92)
abbrev pub is_plain : ℕ → Bool
is_plain byte = nat_le 32 byte && nat_le byte 126 && not (byte == 39) && not (byte == 92)

-- An escape: the letter behind the backslash, and its value (C99 6.4.4.4, 5.2.2).
pub record Escape : Type 0 where
  pub letter : ℕ
  pub value : ℕ

abbrev pub escape : ℕ → ℕ → Escape
escape letter value = record { letter = letter; value = value }

-- `\n \t \r \0 \a \b \f \v \\ \' \"`
abbrev pub escapes : List Escape
escapes =
    escape 110 10 ∷ escape 116 9 ∷ escape 114 13 ∷ escape 48 0 ∷ escape 97 7 ∷ escape 98 8 ∷ escape 102 12
    ∷ escape 118 11 ∷ escape 92 92 ∷ escape 39 39 ∷ escape 34 34 ∷ []

unfoldable pub escape_of : ℕ → Option Escape
escape_of letter = find (λ e. letter == e.letter) escapes

-- a character constant is decimal and has no suffix
abbrev pub character_constant : ℕ → ConstantPiece
character_constant value = record { value = value; form = record { decimal = true; unsigned = false; longs = 0 } }

-- a character constant (C99 6.4.4.4)
unfoldable pub character_of : List ℕ → Option ConstantPiece
character_of (open_ ∷ byte ∷ close ∷ []) =
    if open_ == 39 && is_plain byte && close == 39 then Some (character_constant byte) else None
character_of (open_ ∷ slash ∷ letter ∷ close ∷ []) =
    if open_ == 39 && slash == 92 && close == 39 then option_map (λ e. character_constant e.value) (escape_of letter) else None
character_of _ = None

-- ---- comments and texts

-- the first `*/` (42, 47) is the end
abbrev pub ends_comment : List ℕ → Bool
ends_comment [] = false
ends_comment (byte ∷ rest) = if byte == 42 && begins (is 47) rest then length rest == 1 else ends_comment rest

-- `/*` up to the first `*/` after it (C99 6.4.9)
unfoldable pub is_block_comment : List ℕ → Bool
is_block_comment bytes = begins (is 47) bytes && begins (is 42) (drop 1 bytes) && ends_comment (drop 2 bytes)

abbrev pub has_no_newline : List ℕ → Bool
has_no_newline bytes = list_all (λ byte. not (is_newline byte)) bytes

-- `//` and what stands behind it on the line (C99 6.4.9)
unfoldable pub is_line_comment : List ℕ → Bool
is_line_comment bytes = begins (is 47) bytes && begins (is 47) (drop 1 bytes) && has_no_newline bytes

-- the first `"` (34) that no backslash (92) escapes is the end, and no newline comes before it
abbrev pub ends_text : Bool → List ℕ → Bool
ends_text escaped [] = false
ends_text true (byte ∷ rest) = if is_newline byte then false else ends_text false rest
ends_text false (byte ∷ rest) =
    if is_newline byte then false
    else if byte == 34 then length rest == 0
    else ends_text (byte == 92) rest

-- a text (C99 6.4.5)
unfoldable pub is_text : List ℕ → Bool
is_text bytes = begins (is 34) bytes && ends_text false (drop 1 bytes)

-- ---- directives (C99 6.10)

-- the first `*/` comes, and blanks alone stand behind it
abbrev pub ends_with_blanks : List ℕ → Bool
ends_with_blanks [] = false
ends_with_blanks (byte ∷ rest) =
    if byte == 42 && begins (is 47) rest then list_all is_blank (drop 1 rest) else ends_with_blanks rest

-- nothing, or one comment, with blanks around it
unfoldable pub is_tail : List ℕ → Bool
is_tail bytes =
    let rest = behind_blanks bytes in
    length rest == 0 || (begins (is 47) rest && (begins (is 47) (drop 1 rest) || (begins (is 42) (drop 1 rest) && ends_with_blanks (drop 2 rest))))

-- A constant, and what stands behind it.
pub record Read : Type 0 where
  pub constant : ConstantPiece
  pub rest : List ℕ

abbrev pub read : ConstantPiece → List ℕ → Read
read constant rest = record { constant = constant; rest = rest }

-- the character constant at the front
unfoldable pub character_at : List ℕ → Option Read
character_at bytes =
    option_or (option_map (λ c. read c (drop 3 bytes)) (character_of (take 3 bytes)))
    (option_map (λ c. read c (drop 4 bytes)) (character_of (take 4 bytes)))

-- the integer or character constant at the front
unfoldable pub constant_at : List ℕ → Option Read
constant_at bytes =
    if begins (is 39) bytes then character_at bytes
    else option_map (λ c. read c (drop (prefix_len is_word_byte bytes) bytes)) (integer_of (take (prefix_len is_word_byte bytes) bytes))

abbrev pub body : Bool → Bool → ConstantPiece → Body
body wrapped negated constant = record { wrapped = wrapped; negated = negated; constant = constant }

-- what ends a body: `)` where it has parentheses, and then the tail
abbrev pub ends_body : Bool → List ℕ → Bool
ends_body true bytes = begins (is 41) (behind_blanks bytes) && is_tail (drop 1 (behind_blanks bytes))
ends_body false bytes = is_tail bytes

-- `c` or `-c`, and what ends the body
unfoldable pub signed_of : Bool → List ℕ → Option Body
signed_of wrapped bytes =
    let negated = begins (is 45) bytes in
    let behind = if negated then behind_blanks (drop 1 bytes) else bytes in
    option_and_then (λ r. if ends_body wrapped r.rest then Some (body wrapped negated r.constant) else None) (constant_at behind)

-- `c`, `-c`, `(c)` or `(-c)`, and the tail
unfoldable pub value_of : List ℕ → Option Body
value_of bytes = if begins (is 40) bytes then signed_of true (behind_blanks (drop 1 bytes)) else signed_of false bytes

-- what stands behind the name: no body, or blanks and a body
unfoldable pub body_of : List ℕ → Option (Option Body)
body_of bytes =
    if is_tail bytes then Some None
    else if begins is_blank bytes then option_map Some (value_of (behind_blanks bytes))
    else None

-- a name that is no keyword, and its body
unfoldable pub defined_of : List ℕ → Option Piece
defined_of bytes =
    let name = take (prefix_len is_word_byte bytes) bytes in
    if begins is_word_start bytes && not (is_some (keyword_of name))
    then option_map (define name) (body_of (drop (prefix_len is_word_byte bytes) bytes))
    else None

-- the word behind `#`, and what it wants
unfoldable pub directive_named : List ℕ → Option Piece
directive_named bytes =
    if starts_with ◌==◌ bytes (codes "include") then Some include
    else if starts_with ◌==◌ bytes (codes "define") && begins is_blank (drop 6 bytes) then defined_of (behind_blanks (drop 6 bytes))
    else None

-- `#` (35) and what stands behind it on the line
unfoldable pub directive_of : List ℕ → Option Piece
directive_of bytes = if begins (is 35) bytes && has_no_newline bytes then directive_named (behind_blanks (drop 1 bytes)) else None

-- ---- pieces

abbrev pub white_of : List ℕ → Option Piece
white_of (byte ∷ []) = if is_white byte then Some (white byte) else None
white_of _ = None

abbrev pub comment_of : List ℕ → Option Piece
comment_of bytes = if is_block_comment bytes then Some block_comment else if is_line_comment bytes then Some line_comment else None

-- a name or a keyword (C99 6.4.1, 6.4.2)
abbrev pub word_of : List ℕ → Option Piece
word_of bytes = if begins is_word_start bytes && list_all is_word_byte bytes then Some (word bytes) else None

abbrev pub text_of : List ℕ → Option Piece
text_of bytes = if is_text bytes then Some text else None

-- the piece that these bytes are, if they are one
unfoldable pub piece_of : List ℕ → Option Piece
piece_of bytes =
    option_or (white_of bytes) (option_or (comment_of bytes) (option_or (directive_of bytes) (option_or (word_of bytes)
    (option_or (option_map integer (integer_of bytes)) (option_or (option_map character (character_of bytes))
    (option_or (text_of bytes) (option_map mark (punct_of bytes))))))))
