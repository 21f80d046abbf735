-- Inner: the system's files, as contracts see them.
use Rattle.std.specs.Prelude.{ℕ}

-- how many reads failed, and how many writes
pub record FolderFaults : Type 0 where
  pub reads : ℕ
  pub writes : ℕ
