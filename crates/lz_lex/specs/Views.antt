-- Inner: what the code's pieces are without where they lie in memory.
use Rattle.std.specs.Prelude.{ℕ, List, map, Option, option_map}
use Rattle.std.specs.Borrow.{Bor}
use Rattle.lz_lex.specs.declared.cutting.Cutting.{Cutting}
use Rattle.lz_lex.specs.declared.constant.Constant.{Constant}
use Rattle.lz_lex.specs.declared.constant.Suffix.{Suffix}
use Rattle.lz_lex.specs.declared.directive.Body.{Body}
use Rattle.lz_lex.specs.declared.directive.Read.{Read}
use Rattle.lz_lex.specs.declared.piece.Piece.{Piece}
use Rattle.lz_lex.specs.declared.piece.Piece.TheVariants as found
use Rattle.lz_lex.specs.declared.piece.Front.{Front}
use Rattle.lz_tree.specs.Pieces as pieces
use Rattle.lz_tree.specs.Tokens as tokens

abbrev pub constant : Constant → pieces.ConstantPiece
constant c = record { value = c.value; form = c.form }

abbrev pub suffix : Suffix → pieces.Suffix
suffix s = record { letters = s.letters.now; unsigned = s.unsigned; longs = s.longs }

abbrev pub body : Body → pieces.Body
body b = record { wrapped = b.wrapped; negated = b.negated; constant = constant b.constant }

abbrev pub read : Read → pieces.Read
read r = record { constant = constant r.constant; rest = r.rest.now }

abbrev pub piece : Piece → pieces.Piece
piece (found.White byte) = pieces.white byte
piece found.BlockComment = pieces.block_comment
piece found.LineComment = pieces.line_comment
piece found.Include = pieces.include
piece (found.Define name b) = pieces.define name.now (option_map body b)
piece (found.Word letters) = pieces.word letters.now
piece (found.Integer c) = pieces.integer (constant c)
piece (found.Character c) = pieces.character (constant c)
piece found.Text = pieces.text
piece (found.Mark punct) = pieces.mark punct

abbrev pub front : Front → tokens.Front
front f = record { piece = piece f.piece; size = f.size }

-- the texts of words
abbrev pub texts : List (Bor (List ℕ)) → List (List ℕ)
texts words = map (λ w. w.now) words

-- a name that is defined
abbrev pub definition : Bor (List ℕ) × Option Body → tokens.Definition
definition entry = record { name = entry.0.now; body = option_map body entry.1 }

-- where the cutting stands
abbrev pub cutting : Cutting → tokens.Cutting
cutting c = record {
  line = c.line;
  place = c.place;
  fresh = c.fresh;
  defined = map definition c.defined.entries;
  names = texts c.names.keys;
  tokens = c.tokens;
}
