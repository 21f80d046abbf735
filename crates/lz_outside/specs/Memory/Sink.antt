-- Inner: a sink in memory, as contracts see it.
use Rattle.std.specs.Prelude.{ℕ, List}

-- what was written, how many bytes fit in all, the numbers of the calls that fail, how many calls were
-- made, and how many failed
pub record SinkState : Type 0 where
  pub written : List ℕ
  pub room : ℕ
  pub fails : List ℕ
  pub calls : ℕ
  pub faults : ℕ
