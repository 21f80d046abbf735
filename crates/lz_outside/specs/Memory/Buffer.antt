-- Inner: a buffer, as contracts see it.
use Rattle.std.specs.Prelude.{ℕ, List}

-- its bytes, and how many fit in all
pub record BufferState : Type 0 where
  pub content : List ℕ
  pub room : ℕ
