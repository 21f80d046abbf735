-- Inner: the state that the parts of a store stand for.
use Rattle.std.specs.Prelude.{◌<◌}
use Rattle.std.specs.Vec.{vec_capacity}
use Rattle.lz_model.specs.Store.{State}
use Rattle.lz_store.specs.declared.parts.Parts.{Parts}
use Rattle.lz_store.specs.Answers.{last_thread}

abbrev pub state_of : Parts → State
state_of parts = record {
  cells = parts.cells.items;
  owners = parts.owners.items;
  threads = parts.threads.items;
  holder = parts.holder;
  over = parts.over;
}

-- there is room for each thread that may be made
pub record HasRoom (parts : Parts) : Type 0 where
  pub room : last_thread < vec_capacity parts.threads
