-- Trusted: the line of a token of a file, and the one on which the file ends.
use Rattle.std.specs.Prelude.{ℕ, Option, Some, None, slice_get}
use Rattle.lz_tree.specs.declared.token.Token.{Token}
use Rattle.lz_tree.specs.declared.token.Tokens.{Tokens}

abbrev pub line_or : ℕ → Option Token → ℕ
line_or end (Some token) = token.line
line_or end None = end

-- the line of a token, or past the last one the line at the end
abbrev pub line_of : Tokens → ℕ → ℕ
line_of tokens at = line_or tokens.end_line (slice_get tokens.list at)
