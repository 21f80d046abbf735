-- Inner: the small layout of the tests, and what they ask of an operation.
use Rattle.lz_sync.specs.declared.layout.Layout.{Layout}
use Rattle.lz_sync.specs.Operations.{Operation, IsExpandable}
use Rattle.lz_sync.specs.Forming.{IsFormedOperation}

-- one cell, one mutex, one condition and three slots
abbrev pub small_layout : Layout
small_layout = record { cells = 1; mutexes = 1; conds = 1; threads = 3 }

-- the operation may be expanded there, and its numbers are in range in a memory of 13 words
pub record IsSmall (op : Operation) : Type 0 where
  pub fits : IsExpandable small_layout op
  pub formed : IsFormedOperation 13 op
