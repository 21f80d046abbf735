-- Inner: the longest piece at the front, found byte by byte.
use Rattle.std.specs.Prelude.{ℕ, suc, ◌+◌, ◌^◌, ◌==◌, nat_le, nat_lt, Bool, true, false, not, ◌&&◌, List, [], ◌∷◌, length, take, drop, if◌then◌else◌, Option, Some, None, option_map}
use Rattle.std.specs.Char.{is_ascii_digit, is_ascii_hexdigit}
use Rattle.std.specs.List.{prefix_len}
use Rattle.std.specs.Option.{option_or}
use Rattle.std.specs.Str.Parse as parse
use Rattle.lz_lex.specs.declared.constant.Base.{Base}
use Rattle.lz_lex.specs.declared.constant.Base.TheVariants as base
use Rattle.lz_tree.specs.Pieces as pieces
use Rattle.lz_tree.specs.Pieces.{Piece, ConstantPiece, Suffix, begins, is, is_newline, is_word_byte, is_word_start, is_white, is_octal_digit, integer_of, character_of, punct_of, directive_named, behind_blanks}
use Rattle.lz_tree.specs.Tokens.{Front, front}

-- a byte that ends no line
abbrev pub is_in_line : ℕ → Bool
is_in_line byte = not (is_newline byte)

-- ---- digits

abbrev pub is_digit : Base → ℕ → Bool
is_digit base.Octal byte = is_octal_digit byte
is_digit base.Decimal byte = is_ascii_digit byte
is_digit base.Hexadecimal byte = is_ascii_hexdigit byte

abbrev pub radix : Base → ℕ
radix base.Octal = 8
radix base.Decimal = 10
radix base.Hexadecimal = 16

abbrev pub is_decimal : Base → Bool
is_decimal base.Octal = false
is_decimal base.Decimal = true
is_decimal base.Hexadecimal = false

-- the value of digits, if it is below 2 ^ 64
abbrev pub digits_value_below : Base → List ℕ → Option ℕ
digits_value_below b digits = if nat_lt (parse.digits_value (radix b) digits) (2 ^ 64) then Some (parse.digits_value (radix b) digits) else None

-- a constant of these digits
abbrev pub constant_below : Base → List ℕ → Suffix → Option ConstantPiece
constant_below b digits s = pieces.constant_below (parse.digits_value (radix b) digits) (is_decimal b) s

abbrev pub digits_of : Base → List ℕ → Option ConstantPiece
digits_of b bytes = pieces.digits_of (is_digit b) (radix b) (is_decimal b) bytes

-- ---- ends of comments and texts

-- `*/` stands at the front
abbrev pub closes : List ℕ → Bool
closes [] = false
closes (byte ∷ rest) = byte == 42 && begins (is 47) rest

-- how many bytes there are up to and with the first `*/`
abbrev pub comment_end : List ℕ → Option ℕ
comment_end [] = None
comment_end (byte ∷ rest) = if closes (byte ∷ rest) then Some 2 else option_map suc (comment_end rest)

-- the byte ends a text
abbrev pub quotes : ℕ → Bool → Bool
quotes byte escaped = byte == 34 && not escaped

-- the byte escapes the next one
abbrev pub escapes : ℕ → Bool → Bool
escapes byte escaped = byte == 92 && not escaped

-- how many bytes there are up to and with the first `"` that no backslash escapes, where no newline comes before
abbrev pub text_end : Bool → List ℕ → Option ℕ
text_end escaped [] = None
text_end escaped (byte ∷ rest) =
    if is_newline byte then None
    else if quotes byte escaped then Some 1
    else option_map suc (text_end (escapes byte escaped) rest)

-- ---- the longest piece, by the first byte

unfoldable pub word : List ℕ → Front
word bytes = front (prefix_len is_word_byte bytes) (pieces.word (take (prefix_len is_word_byte bytes) bytes))

unfoldable pub integer : List ℕ → Option Front
integer bytes = option_map (λ c. front (prefix_len is_word_byte bytes) (pieces.integer c)) (integer_of (take (prefix_len is_word_byte bytes) bytes))

unfoldable pub character : List ℕ → Option Front
character bytes =
    option_or (option_map (λ c. front 3 (pieces.character c)) (character_of (take 3 bytes)))
    (option_map (λ c. front 4 (pieces.character c)) (character_of (take 4 bytes)))

unfoldable pub text : List ℕ → Option Front
text bytes = option_map (λ size. front (size + 1) pieces.text) (text_end false (drop 1 bytes))

unfoldable pub mark_of : List ℕ → ℕ → Option Front
mark_of bytes size = option_map (λ p. front size (pieces.mark p)) (punct_of (take size bytes))

abbrev pub mark_if : Bool → List ℕ → ℕ → Option Front
mark_if true bytes size = mark_of bytes size
mark_if false bytes size = None

unfoldable pub mark : List ℕ → Option Front
mark bytes =
    option_or (mark_if (nat_le 3 (length bytes)) bytes 3)
    (option_or (mark_if (nat_le 2 (length bytes)) bytes 2) (mark_of bytes 1))

unfoldable pub slash : List ℕ → Option Front
slash bytes =
    if begins (is 42) (drop 1 bytes) then option_map (λ size. front (size + 2) pieces.block_comment) (comment_end (drop 2 bytes))
    else if begins (is 47) (drop 1 bytes) then Some (front (prefix_len is_in_line bytes) pieces.line_comment)
    else mark bytes

unfoldable pub directive : List ℕ → Option Front
directive bytes =
    option_map (front (prefix_len is_in_line bytes)) (directive_named (behind_blanks (drop 1 (take (prefix_len is_in_line bytes) bytes))))

unfoldable pub scan : List ℕ → Option Front
scan [] = None
scan (byte ∷ rest) =
    if is_word_start byte then Some (word (byte ∷ rest))
    else if is_ascii_digit byte then integer (byte ∷ rest)
    else if is_white byte then Some (front 1 (pieces.white byte))
    else if byte == 47 then slash (byte ∷ rest)
    else if byte == 34 then text (byte ∷ rest)
    else if byte == 39 then character (byte ∷ rest)
    else if byte == 35 then directive (byte ∷ rest)
    else mark (byte ∷ rest)
