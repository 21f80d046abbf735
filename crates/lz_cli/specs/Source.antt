-- Trusted: what the bytes of a source file are: no tokens, no program, or a program.
use Rattle.std.specs.Prelude.{◌≡◌, ℕ, List}
use Rattle.lz_tree.specs.declared.token.Tokens.{Tokens}
use Rattle.lz_tree.specs.Tokens.{HasTokens, cut, stopped}
use Rattle.lz_tree.specs.Trees.{TranslationUnit}
use Rattle.lz_parse.specs.Programs.{IsProgram, IsRefusedAt}

-- the bytes have no cut into tokens; the longest cut ends at this place, on this line
pub record HasNoTokens (bytes : List ℕ) (line place : ℕ) : Type 0 where
  pub stops : cut bytes ≡ stopped place line

-- The bytes have tokens that no well-formed tree spells; of these this one, on this line, is the first up to and with
-- which no program's spelling begins.
pub record HasNoTree (bytes : List ℕ) (line token : ℕ) : Type 0 where
  pub tokens : Tokens
  pub are : HasTokens bytes tokens
  pub refused : IsRefusedAt tokens token line

-- the bytes have tokens that this well-formed tree spells
pub record HasTree (bytes : List ℕ) (tree : TranslationUnit) : Type 0 where
  pub tokens : Tokens
  pub are : HasTokens bytes tokens
  pub spelled : IsProgram tokens tree
