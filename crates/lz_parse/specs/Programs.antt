-- Trusted: which program the tokens of a file spell, and at which token none goes on.
use Rattle.std.specs.Prelude.{◌≡◌, ℕ, ◌+◌, ◌<◌, ◌≤◌, List, ◌++◌, length, take}
use Rattle.lz_tree.specs.declared.token.Token.{Token}
use Rattle.lz_tree.specs.declared.token.Tokens.{Tokens}
use Rattle.lz_tree.specs.Trees.{TranslationUnit}
use Rattle.lz_tree.specs.Spelling.{SpellsExternals, Spells}
use Rattle.lz_tree.specs.WellFormed.{IsWellFormed}
use Rattle.lz_expr.specs.Lines.{line_of}
use Rattle.lz_expr.specs.declared.error.ParseError.{ParseError}
use Rattle.lz_expr.specs.declared.error.ParseError.TheVariants.{NotAProgram, Memory}

-- The program is well formed and spells the tokens, with their names.
pub record IsProgram (tokens : Tokens) (p : TranslationUnit) : Type 0 where
  pub well_formed : IsWellFormed p
  pub spells : Spells p tokens

-- The spelling of some well-formed program begins with these tokens.
pub record BeginsProgram (front : List Token) : Type 0 where
  pub program : TranslationUnit
  pub behind : List Token
  pub well_formed : IsWellFormed program
  pub spells : SpellsExternals program.externals (front ++ behind)

-- No program spells the tokens, and the token is the first with which none goes on: one begins with those before it, and
-- none with those up to and with it. Past the last token the line is the one at the end (`line_of` of lz_expr's Lines).
pub record IsRefusedAt (tokens : Tokens) (token line : ℕ) : Type 0 where
  pub within : token ≤ length tokens.list
  pub before : BeginsProgram (take token tokens.list)
  pub stops : token < length tokens.list → BeginsProgram (take (token + 1) tokens.list) → ⊥
  pub none : (p : TranslationUnit) → IsProgram tokens p → ⊥
  pub place : line ≡ line_of tokens token

-- Why none is answered. Memory may be wanting at any time.
abbrev pub IsNoProgram : Tokens → ParseError → Type 0
IsNoProgram tokens (NotAProgram token line) = IsRefusedAt tokens token line
IsNoProgram tokens Memory = Unit {0}
