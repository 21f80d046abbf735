-- Small facts that show what the definitions say.
use Rattle.std.proofs.Common.{◌≡◌, ℕ, List, [], ◌∷◌, ◌++◌, map, true, false, codes, refl, ◌<◌, arith}
use Rattle.lz_tree.specs.declared.token.Token.{Token}
use Rattle.lz_tree.specs.declared.token.TokenKind.{TokenKind}
use Rattle.lz_tree.specs.declared.token.TokenKind.TheVariants as kinds
use Rattle.lz_tree.specs.declared.token.Punct.TheVariants as marks
use Rattle.lz_base.specs.declared.operator.Binary.TheVariants as ops
use Rattle.lz_tree.specs.Pieces.{piece_of, integer_of, character_of, keyword_of, punct_of, suffix_of, escape_of, digits_of, is_block_comment, is_line_comment, is_text, directive_of, directive_named, defined_of, body_of, value_of, signed_of, constant_at, character_at, is_tail}
use Rattle.lz_tree.specs.Tokens.{Cut, stopped, whole, cut, first_piece, front_of, behind_piece, meaning}
use Rattle.lz_tree.specs.Trees.{Expression, object, binary, whole as alone, empty, when, while, absent, branch}
use Rattle.lz_tree.specs.Languages.{line_at, name_shown, meant_by}
use Rattle.lz_tree.specs.Spelling.{SpellsExpression}
use Rattle.lz_tree.specs.WellFormed.{FitsExpression, is_open, FitsStatement}
use Rattle.lz_tree.specs.Height.{expression_height}

-- ---- tokens

abbrev number : ℕ → TokenKind
number value = kinds.Constant value (record { decimal = true; unsigned = false; longs = 0 })

-- the kinds of the tokens of bytes that are cut to their end
abbrev kinds_in : Cut → List TokenKind
kinds_in (whole at) = map (λ t. t.kind) at.tokens
kinds_in (stopped place line) = []

-- the lines and the places
abbrev lines_in : Cut → List ℕ
lines_in (whole at) = map (λ t. t.line) at.tokens
lines_in (stopped place line) = []

abbrev places_in : Cut → List ℕ
places_in (whole at) = map (λ t. t.place) at.tokens
places_in (stopped place line) = []

-- `08` is no constant, and neither is `0`, since a digit follows
pub no_octal : cut (codes "x=08;") ≡ stopped 2 1
unfolding cut first_piece front_of piece_of integer_of character_of keyword_of punct_of suffix_of escape_of digits_of is_block_comment is_line_comment is_text directive_of directive_named behind_piece meaning
no_octal = refl

-- the longest mark that can stand comes first
pub longest_mark : kinds_in (cut (codes "+++a")) ≡ kinds.Punct marks.Increment ∷ kinds.Punct marks.Plus ∷ kinds.Name 0 ∷ []
unfolding cut first_piece front_of piece_of integer_of character_of keyword_of punct_of suffix_of escape_of digits_of is_block_comment is_line_comment is_text directive_of directive_named behind_piece meaning
longest_mark = refl

-- a comment ends at the first `*/`
pub first_end : kinds_in (cut (codes "/*a*/b*/")) ≡ kinds.Name 0 ∷ kinds.Punct marks.Star ∷ kinds.Punct marks.Slash ∷ []
unfolding cut first_piece front_of piece_of integer_of character_of keyword_of punct_of suffix_of escape_of digits_of is_block_comment is_line_comment is_text directive_of directive_named behind_piece meaning
first_end = refl

-- a comment that does not end leaves nothing that can stand
pub no_end : cut (codes "a/*/") ≡ stopped 1 1
unfolding cut first_piece front_of piece_of integer_of character_of keyword_of punct_of suffix_of escape_of digits_of is_block_comment is_line_comment is_text directive_of directive_named behind_piece meaning
no_end = refl

-- a defined name has the line and the place of its use, and gives the tokens of its body
pub replaced : kinds_in (cut (codes "#define N (-3)" ++ 10 ∷ codes "N")) ≡ kinds.Punct marks.OpenParen ∷ kinds.Punct marks.Minus ∷ number 3 ∷ kinds.Punct marks.CloseParen ∷ []
unfolding cut first_piece front_of piece_of integer_of character_of keyword_of punct_of suffix_of escape_of digits_of is_block_comment is_line_comment is_text directive_of directive_named defined_of body_of value_of signed_of constant_at character_at is_tail behind_piece meaning
replaced = refl

pub replaced_place : places_in (cut (codes "#define N (-3)" ++ 10 ∷ codes "N")) ≡ 15 ∷ 15 ∷ 15 ∷ 15 ∷ []
unfolding cut first_piece front_of piece_of integer_of character_of keyword_of punct_of suffix_of escape_of digits_of is_block_comment is_line_comment is_text directive_of directive_named defined_of body_of value_of signed_of constant_at character_at is_tail behind_piece meaning
replaced_place = refl

-- a directive stands behind blanks alone, and not behind other white space
pub behind_blank : lines_in (cut (codes " #include" ++ 10 ∷ codes "a")) ≡ 2 ∷ []
unfolding cut first_piece front_of piece_of integer_of character_of keyword_of punct_of suffix_of escape_of digits_of is_block_comment is_line_comment is_text directive_of directive_named behind_piece meaning
behind_blank = refl

pub behind_return : cut (13 ∷ codes "#include") ≡ stopped 1 1
unfolding cut first_piece front_of piece_of integer_of character_of keyword_of punct_of suffix_of escape_of digits_of is_block_comment is_line_comment is_text directive_of directive_named behind_piece meaning
behind_return = refl

-- ---- trees

abbrev token : ℕ → TokenKind → Token
token line kind = record { kind = kind; line = line; place = 0 }

-- `a - b - c` over two lines, grouped to the left: each sum begins on the line of its first token
abbrev left_grouped : Expression
left_grouped = binary 1 ops.Sub (binary 1 ops.Sub (object 1 0 alone) (object 1 1 alone)) (object 2 2 alone)

abbrev right_grouped : Expression
right_grouped = binary 1 ops.Sub (object 1 0 alone) (binary 1 ops.Sub (object 1 1 alone) (object 2 2 alone))

abbrev three_names : List Token
three_names =
    token 1 (kinds.Name 0) ∷ token 1 (kinds.Punct marks.Minus) ∷ token 1 (kinds.Name 1) ∷ token 1 (kinds.Punct marks.Minus)
    ∷ token 2 (kinds.Name 2) ∷ []

pub spelled : SpellsExpression left_grouped three_names
unfolding line_at name_shown meant_by
spelled = (
  refl,
  (
    token 1 (kinds.Name 0) ∷ token 1 (kinds.Punct marks.Minus) ∷ token 1 (kinds.Name 1) ∷ [],
    token 1 (kinds.Punct marks.Minus) ∷ token 2 (kinds.Name 2) ∷ [],
    refl,
    (
      refl,
      (
        token 1 (kinds.Name 0) ∷ [],
        token 1 (kinds.Punct marks.Minus) ∷ token 1 (kinds.Name 1) ∷ [],
        refl,
        (refl, (token 1 (kinds.Name 0) ∷ [], [], refl, (token 1 (kinds.Name 0), refl, refl), refl)),
        (
          token 1 (kinds.Punct marks.Minus) ∷ [],
          token 1 (kinds.Name 1) ∷ [],
          refl,
          (token 1 (kinds.Punct marks.Minus), refl, refl),
          (refl, (token 1 (kinds.Name 1) ∷ [], [], refl, (token 1 (kinds.Name 1), refl, refl), refl)),
        ),
      ),
    ),
    (
      token 1 (kinds.Punct marks.Minus) ∷ [],
      token 2 (kinds.Name 2) ∷ [],
      refl,
      (token 1 (kinds.Punct marks.Minus), refl, refl),
      (refl, (token 2 (kinds.Name 2) ∷ [], [], refl, (token 2 (kinds.Name 2), refl, refl), refl)),
    ),
  ),
)

-- the other grouping is not well formed
pub not_right : FitsExpression right_grouped → ⊥
not_right fits = let tight : 2 < 2 = fits.1 in omega arith

pub heights : expression_height left_grouped ≡ 3
heights = refl

-- a loop whose body ends in an `if` without `else` ends in one
pub open_loop : is_open (while 1 left_grouped (when 1 left_grouped empty absent)) ≡ true
open_loop = refl

-- so no `else` belongs to the outer of two `if`s
pub inner_else : FitsStatement (when 1 left_grouped (when 1 left_grouped empty absent) (branch empty)) → ⊥
inner_else fits = let closed : true ≡ false = fits.2.0 in cc
