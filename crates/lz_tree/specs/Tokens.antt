-- Trusted: the tokens of a file: its bytes are cut from the front, each piece the longest that can stand where it begins, and defined names are replaced (C99 6.4, 6.10.3).
use Rattle.std.specs.Prelude.{◌≡◌, ℕ, zero, suc, ◌+◌, ◌-◌, Bool, true, false, not, ◌&&◌, ◌||◌, List, [], ◌∷◌, ◌++◌, length, take, drop, map, count_by, if◌then◌else◌, Option, Some, None, find, option_map}
use Rattle.std.specs.List.{list_any}
use Rattle.std.specs.Option.{option_or}
use Rattle.std.specs.Str.{bytes_eq}
use Rattle.lz_tree.specs.declared.token.Keyword.{Keyword}
use Rattle.lz_tree.specs.declared.token.Keyword.TheVariants as keys
use Rattle.lz_tree.specs.declared.token.Punct.TheVariants as marks
use Rattle.lz_tree.specs.declared.token.Token.{Token}
use Rattle.lz_tree.specs.declared.token.TokenKind.{TokenKind}
use Rattle.lz_tree.specs.declared.token.TokenKind.TheVariants as kinds
use Rattle.lz_tree.specs.declared.token.Tokens.{Tokens}
use Rattle.lz_tree.specs.Pieces.{Piece, white, line_comment, include, define, word, integer, character, text, mark, Body, ConstantPiece, piece_of, keyword_of, begins, is, is_newline, is_blank, is_word_byte}

-- A name that a directive defined, with its body.
pub record Definition : Type 0 where
  pub name : List ℕ
  pub body : Option Body

-- Where the cutting stands: the line and the place of the next byte, whether nothing but blanks stands before it on
-- its line, the names that are defined, and the names and the tokens so far.
pub record Cutting : Type 0 where
  pub line : ℕ
  pub place : ℕ
  pub fresh : Bool
  pub defined : List Definition
  pub names : List (List ℕ)
  pub tokens : List Token

-- ---- which pieces can stand

-- the name was defined
abbrev pub is_defined : List Definition → List ℕ → Bool
is_defined defined name = list_any (λ d. bytes_eq name d.name) defined

-- nothing stands behind, or a newline
abbrev pub ends_line : List ℕ → Bool
ends_line [] = true
ends_line (byte ∷ rest) = is_newline byte

-- what may follow a piece directly: no letter, digit or `_` an integer constant, no `*` a `/`, and a newline or the end
-- a line comment or a directive
abbrev pub may_follow : Piece → List ℕ → Bool
may_follow line_comment rest = ends_line rest
may_follow include rest = ends_line rest
may_follow (define name body) rest = ends_line rest
may_follow (integer constant) rest = not (begins is_word_byte rest)
may_follow (mark marks.Slash) rest = not (begins (is 42) rest)
may_follow _ rest = true

-- a directive is the first on its line, and defines a name for the first time
abbrev pub may_stand : Cutting → Piece → Bool
may_stand at include = at.fresh
may_stand at (define name body) = at.fresh && not (is_defined at.defined name)
may_stand at _ = true

-- the piece, where it can stand before the rest
abbrev pub standing : Cutting → Option Piece → List ℕ → Option Piece
standing at None rest = None
standing at (Some piece) rest = if may_stand at piece && may_follow piece rest then Some piece else None

-- A piece at the front of bytes, and how many bytes it has.
pub record Front : Type 0 where
  pub piece : Piece
  pub size : ℕ

abbrev pub front : ℕ → Piece → Front
front size piece = record { piece = piece; size = size }

-- a piece of so many bytes that can stand at the front
unfoldable pub front_of : Cutting → List ℕ → ℕ → Option Front
front_of at bytes size = option_map (front size) (standing at (piece_of (take size bytes)) (drop size bytes))

-- the longest piece of at most so many bytes that can stand at the front
abbrev pub longest : Cutting → List ℕ → ℕ → Option Front
longest at bytes zero = None
longest at bytes (suc size) = option_or (front_of at bytes (suc size)) (longest at bytes size)

-- the longest piece that can stand at the front
unfoldable pub first_piece : Cutting → List ℕ → Option Front
first_piece at bytes = longest at bytes (length bytes)

-- ---- what a piece adds

-- the keyword gives no token
abbrev pub is_passed_over : Keyword → Bool
is_passed_over keys.Const = true
is_passed_over keys.Volatile = true
is_passed_over keys.Inline = true
is_passed_over keys.Register = true
is_passed_over _ = false

abbrev pub constant_kind : ConstantPiece → TokenKind
constant_kind c = kinds.Constant c.value c.form

abbrev pub where_true : Bool → TokenKind → List TokenKind
where_true true kind = kind ∷ []
where_true false kind = []

-- the tokens of a body
abbrev pub body_kinds : Option Body → List TokenKind
body_kinds None = []
body_kinds (Some b) =
    where_true b.wrapped (kinds.Punct marks.OpenParen)
    ++ where_true b.negated (kinds.Punct marks.Minus)
    ++ constant_kind b.constant ∷ []
    ++ where_true b.wrapped (kinds.Punct marks.CloseParen)

-- the names with one more, unless it is among them
abbrev pub with_name : List (List ℕ) → List ℕ → List (List ℕ)
with_name names name = if list_any (bytes_eq name) names then names else names ++ name ∷ []

-- the number of a name: how many come before it
abbrev pub number_in : List (List ℕ) → List ℕ → ℕ
number_in [] name = 0
number_in (first ∷ names) name = if bytes_eq name first then 0 else number_in names name + 1

-- the definition of a name
abbrev pub definition_of : List Definition → List ℕ → Option Definition
definition_of defined name = find (λ d. bytes_eq name d.name) defined

-- What a word stands for.
pub data Meaning : Type 0 where
  keyword : (word : Keyword) → Meaning
  replaced : (body : Option Body) → Meaning
  named : Meaning

abbrev pub meaning_by : Option Keyword → Option Definition → Meaning
meaning_by (Some k) d = keyword k
meaning_by None (Some d) = replaced d.body
meaning_by None None = named

-- a keyword, a defined name, or a name
unfoldable pub meaning : List Definition → List ℕ → Meaning
meaning defined letters = meaning_by (keyword_of letters) (definition_of defined letters)

-- the names behind a word
abbrev pub names_behind : Meaning → List (List ℕ) → List ℕ → List (List ℕ)
names_behind (keyword k) names letters = names
names_behind (replaced body) names letters = names
names_behind named names letters = with_name names letters

-- the tokens of a word
abbrev pub word_kinds : Meaning → List (List ℕ) → List ℕ → List TokenKind
word_kinds (keyword k) names letters = where_true (not (is_passed_over k)) (kinds.Keyword k)
word_kinds (replaced body) names letters = body_kinds body
word_kinds named names letters = kinds.Name (number_in (with_name names letters) letters) ∷ []

-- the tokens of a piece
abbrev pub piece_kinds : Cutting → Piece → List TokenKind
piece_kinds at (word letters) = word_kinds (meaning at.defined letters) at.names letters
piece_kinds at (integer constant) = constant_kind constant ∷ []
piece_kinds at (character constant) = constant_kind constant ∷ []
piece_kinds at text = kinds.Text ∷ []
piece_kinds at (mark punct) = kinds.Punct punct ∷ []
piece_kinds at _ = []

abbrev pub piece_names : Cutting → Piece → List (List ℕ)
piece_names at (word letters) = names_behind (meaning at.defined letters) at.names letters
piece_names at _ = at.names

abbrev pub piece_defined : List Definition → Piece → List Definition
piece_defined defined (define name body) = defined ++ record { name = name; body = body } ∷ []
piece_defined defined _ = defined

-- whether nothing but blanks stands on the line behind the piece
abbrev pub fresh_behind : Bool → Piece → Bool
fresh_behind fresh (white byte) = is_newline byte || (is_blank byte && fresh)
fresh_behind fresh _ = false

-- tokens on one line and at one place
abbrev pub placed : ℕ → ℕ → List TokenKind → List Token
placed line place found = map (λ kind. record { kind = kind; line = line; place = place }) found

-- behind a piece of these bytes
unfoldable pub behind_piece : Cutting → Piece → List ℕ → Cutting
behind_piece at piece bytes = record {
  line = at.line + count_by is_newline bytes;
  place = at.place + length bytes;
  fresh = fresh_behind at.fresh piece;
  defined = piece_defined at.defined piece;
  names = piece_names at piece;
  tokens = at.tokens ++ placed at.line at.place (piece_kinds at piece);
}

-- ---- the cut

-- A whole file is cut, or nothing can stand at some place.
pub data Cut : Type 0 where
  whole : (at : Cutting) → Cut
  stopped : (place line : ℕ) → Cut

-- the cut behind the piece at the front, if one can stand there
abbrev pub go_on : Cutting → Option Front → (Front → Cut) → Cut
go_on at None next = stopped at.place at.line
go_on at (Some f) next = next f

-- the bytes are cut to their end; the first so many of them belong to the piece before
abbrev pub cut_behind : ℕ → Cutting → List ℕ → Cut
cut_behind size at [] = whole at
cut_behind (suc size) at (byte ∷ rest) = cut_behind size at rest
cut_behind zero at (byte ∷ rest) =
    go_on at (first_piece at (byte ∷ rest)) (λ f. cut_behind (f.size - 1) (behind_piece at f.piece (take f.size (byte ∷ rest))) rest)

-- at the front of a file
abbrev pub opening : Cutting
opening = record { line = 1; place = 0; fresh = true; defined = []; names = []; tokens = [] }

-- the cut of a file
unfoldable pub cut : List ℕ → Cut
cut bytes = cut_behind 0 opening bytes

-- these are the tokens of the bytes
pub record HasTokens (bytes : List ℕ) (tokens : Tokens) : Type 0 where
  pub at : Cutting
  pub cut : cut bytes ≡ whole at
  pub list : tokens.list ≡ at.tokens
  pub names : tokens.names ≡ at.names
  pub end_line : tokens.end_line ≡ at.line
