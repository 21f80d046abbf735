-- Inner: what each step of taking a piece adds.
use Rattle.std.specs.Prelude.{ℕ, ◌+◌, ◌≤◌, List, [], ◌∷◌, ◌++◌, length}
use Rattle.lz_tree.specs.declared.token.TokenKind.{TokenKind}
use Rattle.lz_tree.specs.declared.token.TokenKind.TheVariants as kinds
use Rattle.lz_tree.specs.Pieces.{Piece}
use Rattle.lz_tree.specs.Tokens.{Cutting, placed, with_name, number_in, meaning, names_behind, word_kinds, piece_defined, piece_names, piece_kinds}

-- tokens are added
abbrev pub added : Cutting → List TokenKind → Cutting
added at found = record at { tokens = at.tokens ++ placed at.line at.place found }

-- the token of a name is added
unfoldable pub named : Cutting → List ℕ → Cutting
named at name = record at {
  names = with_name at.names name;
  tokens = at.tokens ++ placed at.line at.place (kinds.Name (number_in (with_name at.names name) name) ∷ []);
}

-- the tokens of a word are added
unfoldable pub worded : Cutting → List ℕ → Cutting
worded at letters = record at {
  names = names_behind (meaning at.defined letters) at.names letters;
  tokens = at.tokens ++ placed at.line at.place (word_kinds (meaning at.defined letters) at.names letters);
}

-- the tokens of a piece are added, and the name that it defines
unfoldable pub pieced : Cutting → Piece → Cutting
pieced at piece = record at {
  defined = piece_defined at.defined piece;
  names = piece_names at piece;
  tokens = at.tokens ++ placed at.line at.place (piece_kinds at piece);
}

-- line and names are at most as many as the bytes behind
pub record IsWithin (at : Cutting) : Type 0 where
  pub line : at.line ≤ at.place + 1
  pub names : length at.names ≤ at.place
