-- Inner: what the values of the code are for the readers.
use Rattle.std.specs.Prelude.{◌≡◌, ℕ}
use Rattle.lz_tree.specs.declared.token.Tokens.{Tokens}
use Rattle.lz_expr.specs.Lines.{line_of}
use Rattle.lz_expr.specs.declared.error.ParseError.{ParseError}
use Rattle.lz_expr.specs.declared.error.ParseError.TheVariants.{NotAProgram, Memory}
use Rattle.lz_parse.specs.declared.heading.Heading.{Heading}
use Rattle.lz_parse.specs.Grammar as spec

-- a heading, with the line of its first token
abbrev pub heading_of : Heading → ℕ × spec.Heading
heading_of d = (d.line, record { word = d.lead; base = (d.base_line, d.base); name = (d.name_line, d.name) })

-- the place is named, or has no number below 2^32
abbrev pub IsNamedAt : Tokens → ℕ → ParseError → Type 0
IsNamedAt tokens at (NotAProgram token line) = (token ≡ at) × (line ≡ line_of tokens at)
IsNamedAt tokens at Memory = Unit {0}
