-- Trusted: that the instructions of a deed do in a memory what the deed does to the state that the memory stands for.
use Rattle.std.specs.Prelude.{◌≡◌, ℕ, suc, ◌<◌, List, slice_set}
use Rattle.lz_base.specs.Words.{value_bound}
use Rattle.lz_base.specs.declared.word.BreakKind.{BreakKind}
use Rattle.lz_flat.specs.Instructions.{Did, value, put}
use Rattle.lz_flat.specs.Instructions as flat
use Rattle.lz_flat.specs.Naming.{NamesOnly, LocationNamesOnly}
use Rattle.lz_flat.specs.Running.{runs}
use Rattle.lz_model.specs.declared.actions.Action.{Action}
use Rattle.lz_model.specs.declared.actions.Action.TheVariants as actions
use Rattle.lz_model.specs.Store.{State, Acted, went, blocked, broke, act}
use Rattle.lz_sync.specs.declared.layout.Layout.{Layout}
use Rattle.lz_sync.specs.Slots.{thread_of}
use Rattle.lz_sync.specs.Standing.{StandsFor}
use Rattle.lz_sync.specs.Operations.{Operation, reads, writes, resets, locks, unlocks, parks, wakes, signals, broadcasts, creates, joins, holds_on, holds_off, ends, action_in, made_after, with_read, IsBeside, IsExpandable, IsReady}
use Rattle.lz_sync.specs.Doing.{KeepsOthers}
use Rattle.lz_split.specs.Deeds.{Deed, operates, inputs, tests, supposes, line_of, argument_place, deed_group}

-- the action that a deed is in a memory, with this input
abbrev pub deed_action : List ℕ → List ℕ → ℕ → Deed → Action
deed_action memory made input (operates line op) = action_in memory made op
deed_action memory made input (inputs line to) = actions.Input input
deed_action memory made input (tests line kind test) = actions.Check (value test memory) kind
deed_action memory made input (supposes line test) = actions.Assume (value test memory)

-- the list of made slots after it goes
abbrev pub made_by : List ℕ → Deed → List ℕ
made_by made (operates line op) = made_after made op
made_by made (inputs line to) = made
made_by made (tests line kind test) = made
made_by made (supposes line test) = made

-- the memory with the argument that a creation leaves
abbrev pub with_argument : Layout → List ℕ → Operation → List ℕ
with_argument layout memory (creates slot start argument) = slice_set memory (argument_place layout slot) (value argument memory)
with_argument layout memory (reads from to) = with_read memory (reads from to)
with_argument layout memory (writes to of) = memory
with_argument layout memory (resets m) = memory
with_argument layout memory (locks m) = memory
with_argument layout memory (unlocks m) = memory
with_argument layout memory (parks c m) = memory
with_argument layout memory (wakes c m) = memory
with_argument layout memory (signals c w) = memory
with_argument layout memory (broadcasts c) = memory
with_argument layout memory (joins slot) = memory
with_argument layout memory holds_on = memory
with_argument layout memory holds_off = memory
with_argument layout memory (ends whole) = memory

-- the memory with what a deed leaves in the thread's own words, and a creation in its argument's word
abbrev pub beside : Layout → List ℕ → ℕ → Deed → List ℕ
beside layout memory input (operates line op) = with_argument layout memory op
beside layout memory input (inputs line to) = put to input memory
beside layout memory input (tests line kind test) = memory
beside layout memory input (supposes line test) = memory

-- its spots and slots are those of the layout, and it names no word that stands for a state
abbrev pub IsLowered : Layout → Deed → Type 0
IsLowered layout (operates line op) = IsExpandable layout op
IsLowered layout (inputs line to) = LocationNamesOnly (IsBeside layout) to
IsLowered layout (tests line kind test) = NamesOnly (IsBeside layout) test
IsLowered layout (supposes line test) = NamesOnly (IsBeside layout) test

-- in this memory its indices are in range, and a created slot is above those that are made
abbrev pub IsDue : Layout → List ℕ → List ℕ → Deed → Type 0
IsDue layout memory made (operates line op) = IsReady layout memory made op
IsDue layout memory made (inputs line to) = value to.index memory < to.len
IsDue layout memory made (tests line kind test) = 0 < layout.threads
IsDue layout memory made (supposes line test) = 0 < layout.threads

-- Instructions go, are blocked or break as the action does, at this line. Where they go, the memory then stands for the
-- new state with this list of made slots, and every other word is as in this memory.
pub data DoesAt (layout : Layout) (other : List ℕ) (made : List ℕ) (line : ℕ) (acted : Acted) (does : Did) : Type 0 where
  goes : (state : State) (after : List ℕ) → acted ≡ went state → does ≡ flat.moved 0 after → StandsFor layout after state made → KeepsOthers layout other after → DoesAt layout other made line acted does
  waits : acted ≡ blocked → does ≡ flat.blocked → DoesAt layout other made line acted does
  breaks : (kind : BreakKind) → acted ≡ broke kind → does ≡ flat.broke kind line → DoesAt layout other made line acted does

-- The instructions of every deed do so: the second one has the input of an input.
abbrev pub DeedsDo : Type 0
DeedsDo =
    (layout : Layout) (t : ℕ) (d : Deed) (memory : List ℕ) (state : State) (made : List ℕ) (input : ℕ → ℕ) (l : ℕ) → t < layout.threads → layout.conds < value_bound → IsLowered layout d
    → StandsFor layout memory state made → IsDue layout memory made d
    → DoesAt layout (beside layout memory (input (suc l)) d) (made_by made d) (line_of d) (act state (thread_of made t) (deed_action memory made (input (suc l)) d)) (runs input l (deed_group layout t d) memory)
