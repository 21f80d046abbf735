-- Trusted: operations: actions with expressions in the place of numbers, and the action that one is in a memory.
use Rattle.std.specs.Prelude.{ℕ, zero, suc, ◌+◌, ◌<◌, ◌≤◌, Bool, List, [], ◌∷◌, ◌++◌, slice_index, Option, Some, None, ⊤}
use Rattle.lz_flat.specs.Programs.{Expression, Location, location, expression}
use Rattle.lz_flat.specs.Instructions.{value, put}
use Rattle.lz_model.specs.declared.actions.Action.{Action}
use Rattle.lz_model.specs.declared.actions.Action.TheVariants as actions
use Rattle.lz_sync.specs.declared.layout.Layout.{Layout}
use Rattle.lz_sync.specs.declared.operation.SyncOp.{SyncOp}
use Rattle.lz_sync.specs.declared.operation.SyncOp.TheVariants as ops
use Rattle.lz_sync.specs.Slots.{thread_of, RisesTo}
use Rattle.lz_sync.specs.Standing.{words_of}
use Rattle.lz_flat.specs.Naming.{NamesOnly, LocationNamesOnly}

-- An action with expressions in the place of numbers. A cell, a mutex or a condition counts from 0 among its kind; a
-- thread goes by its slot; a signal's number is 0 for nobody, else one more than the woken slot.
pub data Operation : Type 0 where
  reads : (from to : Location) → Operation
  writes : (to : Location) (of : Expression) → Operation
  resets : (mutex : Location) → Operation
  locks : (mutex : Location) → Operation
  unlocks : (mutex : Location) → Operation
  parks : (cond mutex : Location) → Operation
  wakes : (cond mutex : Location) → Operation
  signals : (cond : Location) (woken : Expression) → Operation
  broadcasts : (cond : Location) → Operation
  creates : (slot start : ℕ) (argument : Expression) → Operation
  joins : (slot : Expression) → Operation
  holds_on : Operation
  holds_off : Operation
  ends : (whole : Bool) → Operation

-- what the type of the code stands for
abbrev pub operation : SyncOp → Operation
operation (ops.Read from to) = reads (location from) (location to)
operation (ops.Write to of) = writes (location to) (expression of)
operation (ops.Reset m) = resets (location m)
operation (ops.Lock m) = locks (location m)
operation (ops.Unlock m) = unlocks (location m)
operation (ops.Park c m) = parks (location c) (location m)
operation (ops.Wake c m) = wakes (location c) (location m)
operation (ops.Signal c w) = signals (location c) (expression w)
operation (ops.Broadcast c) = broadcasts (location c)
operation (ops.Create t f v) = creates t f (expression v)
operation (ops.Join t) = joins (expression t)
operation ops.HoldOn = holds_on
operation ops.HoldOff = holds_off
operation (ops.End w) = ends w

-- ---- the action that an operation is in a memory

-- the number of a spot
abbrev pub spot_of : Location → List ℕ → ℕ
spot_of spot memory = spot.first + value spot.index memory

-- the thread that a signal wakes: 0 is nobody, else one more than its slot
abbrev pub woken_of : List ℕ → ℕ → Option ℕ
woken_of made zero = None
woken_of made (suc slot) = Some (thread_of made slot)

-- the action; a read finds what the cell has
abbrev pub action_in : List ℕ → List ℕ → Operation → Action
action_in memory made (reads from to) = actions.Rd (spot_of from memory) (slice_index memory (spot_of from memory))
action_in memory made (writes to of) = actions.Wr (spot_of to memory) (value of memory)
action_in memory made (resets m) = actions.Reset (spot_of m memory)
action_in memory made (locks m) = actions.Lock (spot_of m memory)
action_in memory made (unlocks m) = actions.Unlock (spot_of m memory)
action_in memory made (parks c m) = actions.Park (spot_of c memory) (spot_of m memory)
action_in memory made (wakes c m) = actions.Wake (spot_of c memory) (spot_of m memory)
action_in memory made (signals c w) = actions.Signal (spot_of c memory) (woken_of made (value w memory))
action_in memory made (broadcasts c) = actions.Broadcast (spot_of c memory)
action_in memory made (creates slot start argument) = actions.Create (thread_of made slot) start (value argument memory)
action_in memory made (joins slot) = actions.Join (thread_of made (value slot memory))
action_in memory made holds_on = actions.HoldOn
action_in memory made holds_off = actions.HoldOff
action_in memory made (ends whole) = actions.End whole

-- the list of made slots after it goes
abbrev pub made_after : List ℕ → Operation → List ℕ
made_after made (creates slot start argument) = made ++ slot ∷ []
made_after made (reads from to) = made
made_after made (writes to of) = made
made_after made (resets m) = made
made_after made (locks m) = made
made_after made (unlocks m) = made
made_after made (parks c m) = made
made_after made (wakes c m) = made
made_after made (signals c w) = made
made_after made (broadcasts c) = made
made_after made (joins slot) = made
made_after made holds_on = made
made_after made holds_off = made
made_after made (ends whole) = made

-- the memory with what a read leaves in the word that it names; every other operation leaves nothing
abbrev pub with_read : List ℕ → Operation → List ℕ
with_read memory (reads from to) = put to (slice_index memory (spot_of from memory)) memory
with_read memory (writes to of) = memory
with_read memory (resets m) = memory
with_read memory (locks m) = memory
with_read memory (unlocks m) = memory
with_read memory (parks c m) = memory
with_read memory (wakes c m) = memory
with_read memory (signals c w) = memory
with_read memory (broadcasts c) = memory
with_read memory (creates slot start argument) = memory
with_read memory (joins slot) = memory
with_read memory holds_on = memory
with_read memory holds_off = memory
with_read memory (ends whole) = memory

-- ---- when an operation may be expanded

-- a place of no word that stands for a state
abbrev pub IsBeside : Layout → ℕ → Type 0
IsBeside layout place = words_of layout ≤ place

-- the spot lies within so many, and its index is read from no word that stands for a state
pub record IsSpot (layout : Layout) (most : ℕ) (spot : Location) : Type 0 where
  pub within : spot.first + spot.len ≤ most
  pub apart : NamesOnly (IsBeside layout) spot.index

-- Its spots lie within the layout's numbers, its slots are threads of the layout, and it reads no number from a
-- word that stands for a state, nor leaves one there.
abbrev pub IsExpandable : Layout → Operation → Type 0
IsExpandable layout (reads from to) = IsSpot layout layout.cells from × LocationNamesOnly (IsBeside layout) to
IsExpandable layout (writes to of) = IsSpot layout layout.cells to × NamesOnly (IsBeside layout) of
IsExpandable layout (resets m) = IsSpot layout layout.mutexes m
IsExpandable layout (locks m) = IsSpot layout layout.mutexes m
IsExpandable layout (unlocks m) = IsSpot layout layout.mutexes m
IsExpandable layout (parks c m) = IsSpot layout layout.conds c × IsSpot layout layout.mutexes m
IsExpandable layout (wakes c m) = IsSpot layout layout.conds c × IsSpot layout layout.mutexes m
IsExpandable layout (signals c w) = IsSpot layout layout.conds c × NamesOnly (IsBeside layout) w
IsExpandable layout (broadcasts c) = IsSpot layout layout.conds c
IsExpandable layout (creates slot start argument) = (0 < slot) × (slot < layout.threads) × NamesOnly (IsBeside layout) argument
IsExpandable layout (joins slot) = NamesOnly (IsBeside layout) slot
IsExpandable layout holds_on = ⊤
IsExpandable layout holds_off = ⊤
IsExpandable layout (ends whole) = ⊤

-- in this memory the index of the spot is in range
abbrev pub IsIndexed : Location → List ℕ → Type 0
IsIndexed spot memory = value spot.index memory < spot.len

-- in this memory its indices are in range, and a created slot is above those that are made
abbrev pub IsReady : Layout → List ℕ → List ℕ → Operation → Type 0
IsReady layout memory made (reads from to) = IsIndexed from memory × IsIndexed to memory
IsReady layout memory made (writes to of) = IsIndexed to memory
IsReady layout memory made (resets m) = IsIndexed m memory
IsReady layout memory made (locks m) = IsIndexed m memory
IsReady layout memory made (unlocks m) = IsIndexed m memory
IsReady layout memory made (parks c m) = IsIndexed c memory × IsIndexed m memory
IsReady layout memory made (wakes c m) = IsIndexed c memory × IsIndexed m memory
IsReady layout memory made (signals c w) = IsIndexed c memory
IsReady layout memory made (broadcasts c) = IsIndexed c memory
IsReady layout memory made (creates slot start argument) = RisesTo layout.threads 0 (made ++ slot ∷ [])
IsReady layout memory made (joins slot) = ⊤
IsReady layout memory made holds_on = ⊤
IsReady layout memory made holds_off = ⊤
IsReady layout memory made (ends whole) = ⊤
