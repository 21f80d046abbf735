-- Inner: how far tokens begin a text of a language, and what is answered where they go no further.
use Rattle.std.specs.Prelude.{◌≡◌, ℕ, ◌+◌, ◌<◌, ◌≤◌, Bool, List, ◌++◌, length, slice_range, if◌then◌else◌}
use Rattle.lz_tree.specs.declared.token.Token.{Token}
use Rattle.lz_tree.specs.declared.token.Tokens.{Tokens}
use Rattle.lz_tree.specs.Trees.{Expression}
use Rattle.lz_tree.specs.WellFormed.{InExpression}
use Rattle.lz_expr.specs.Lines.{line_of}
use Rattle.lz_expr.specs.declared.error.ParseError.{ParseError}
use Rattle.lz_expr.specs.declared.error.ParseError.TheVariants.{NotAProgram, Memory}

-- some text of the language begins with these tokens
abbrev pub Viable : {K T : Type 0} → (T → List K → Type 0) → List K → Type 0
Viable {K = K} {T = T} l u = (t : T) × (s : List K) × l t (u ++ s)

-- The front: the longest row of tokens from a place on with which a text of the language begins. It ends before `at`.
pub record IsFront {T : Type 0} (l : T → List Token → Type 0) (list : List Token) (from at : ℕ) : Type 0 where
  pub after : from ≤ at
  pub within : at ≤ length list
  pub begins : Viable l (slice_range list from at)
  pub longest : at < length list → Viable l (slice_range list from (at + 1)) → ⊥

-- the level of the expressions that are meant: those of an assignment, or those of a choice
abbrev pub class_of : Bool → ℕ
class_of assign = if assign then 12 else 11

-- An expression was found: it is spelled by the whole front.
pub record IsExpressionAt (tokens : Tokens) (from height : ℕ) (assign : Bool) (e : Expression) (at : ℕ) : Type 0 where
  pub front : IsFront (InExpression height (class_of assign)) tokens.list from at
  pub spells : InExpression height (class_of assign) e (slice_range tokens.list from at)

-- None was found: the front ends before the token and spells no expression. Memory may be wanting at any time.
abbrev pub IsNoExpressionAt : Tokens → ℕ → ℕ → Bool → ParseError → Type 0
IsNoExpressionAt tokens from height assign (NotAProgram token line) =
    IsFront (InExpression height (class_of assign)) tokens.list from token
    × ((e : Expression) → InExpression height (class_of assign) e (slice_range tokens.list from token) → ⊥)
    × (line ≡ line_of tokens token)
IsNoExpressionAt tokens from height assign Memory = Unit {0}
