-- Trusted: the states that actions reach from the opening state of a process.
use Rattle.std.specs.Prelude.{◌≡◌, ℕ, suc, ◌<◌, List, length, slice_index, Option, Some, None, ⊤}
use Rattle.std.specs.List.{AllByRecursion}
use Rattle.lz_base.specs.Words.{value_bound}
use Rattle.lz_flat.specs.WellFormed.{IsWord}
use Rattle.lz_model.specs.declared.actions.Action.{Action}
use Rattle.lz_model.specs.Store.{State, opening, went, act, thread_at}
use Rattle.lz_sync.specs.declared.layout.Layout.{Layout}
use Rattle.lz_sync.specs.Slots.{RisesTo}
use Rattle.lz_sync.specs.Standing.{words_of, StandsFor}

-- actions of any threads lead from the opening state with these cells and so many mutexes to the state
pub data IsReached (cells : List ℕ) (mutexes : ℕ) : State → Type 0 where
  opens : IsReached cells mutexes (opening cells mutexes)
  acts : (state : State) (thread : ℕ) (action : Action) (after : State) → IsReached cells mutexes state → act state thread action ≡ went after → IsReached cells mutexes after

-- the condition, where there is one, is one of so many
abbrev pub IsCondOf : ℕ → Option ℕ → Type 0
IsCondOf conds None = ⊤
IsCondOf conds (Some cond) = cond < conds

-- the state has the layout's numbers of cells and mutexes, its cells have words, and its threads wait on conditions of
-- the layout alone
pub record IsStateOf (layout : Layout) (state : State) : Type 0 where
  pub cells : length state.cells ≡ layout.cells
  pub mutexes : length state.owners ≡ layout.mutexes
  pub words : (cell : ℕ) → cell < layout.cells → IsWord (slice_index state.cells cell)
  pub conds : (thread : ℕ) → IsCondOf layout.conds (thread_at state thread).waits

-- Every state that is reached, and is one of the layout, has a memory of words that stands for it with any rising list
-- of as many slots as it made.
abbrev pub MemoryForEach : Type 0
MemoryForEach =
    (layout : Layout) (cells : List ℕ) (mutexes : ℕ) (state : State) (made : List ℕ) → words_of layout < value_bound → layout.conds < value_bound → 0 < layout.threads → IsReached cells mutexes state → IsStateOf layout state
    → RisesTo layout.threads 0 made → length state.threads ≡ suc (length made) → (memory : List ℕ) × AllByRecursion IsWord memory × StandsFor layout memory state made
