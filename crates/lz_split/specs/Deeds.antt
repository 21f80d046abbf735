-- Inner: the deeds of a thread of a slotted program, their instructions, and what they may be on the thread's own words.
use Rattle.std.specs.Prelude.{◌≡◌, ℕ, zero, suc, ◌+◌, ◌-◌, ◌<◌, List, [], ◌∷◌, ◌++◌, length, map, Option, Some, None}
use Rattle.lz_base.specs.Words.{value_bound}
use Rattle.lz_base.specs.declared.word.BreakKind.{BreakKind}
use Rattle.lz_flat.specs.Programs.{Expression, Location, Instruction, sets, takes, assumes, checks, skips}
use Rattle.lz_flat.specs.Instructions.{value, put}
use Rattle.lz_model.specs.declared.actions.Action.{Action}
use Rattle.lz_model.specs.declared.actions.Action.TheVariants as actions
use Rattle.lz_model.specs.Actions.{Act}
use Rattle.lz_model.specs.CodeTraces.{at}
use Rattle.lz_sync.specs.declared.layout.Layout.{Layout}
use Rattle.lz_sync.specs.Standing.{words_of}
use Rattle.lz_sync.specs.Operations.{Operation, reads, writes, resets, locks, unlocks, parks, wakes, signals, broadcasts, creates, joins, holds_on, holds_off, ends, spot_of}
use Rattle.lz_sync.specs.Groups.{fixed, both, live, group}
use Rattle.lz_code.specs.Structured.{Deeds}

-- A deed, with the line of its node: an operation on what threads share; an input; a check; or an assumption.
pub data Deed : Type 0 where
  operates : (line : ℕ) (op : Operation) → Deed
  inputs : (line : ℕ) (to : Location) → Deed
  tests : (line : ℕ) (kind : BreakKind) (test : Expression) → Deed
  supposes : (line : ℕ) (test : Expression) → Deed

-- the line of a deed
abbrev pub line_of : Deed → ℕ
line_of (operates line op) = line
line_of (inputs line to) = line
line_of (tests line kind test) = line
line_of (supposes line test) = line

-- ---- instructions

-- a check with this line
abbrev pub lined : ℕ → Instruction → Instruction
lined line (sets to of) = sets to of
lined line (takes to) = takes to
lined line (assumes test) = assumes test
lined line (checks test kind other) = checks test kind line
lined line (skips test by) = skips test by

-- the word in which the creation of a slot leaves its argument
abbrev pub argument_place : Layout → ℕ → ℕ
argument_place layout slot = words_of layout + (slot - 1)

-- what follows the instructions of an operation: a creation leaves its argument
abbrev pub left_by : Layout → Operation → List Instruction
left_by layout (creates slot start argument) = sets (fixed (argument_place layout slot)) argument ∷ []
left_by layout (reads from to) = []
left_by layout (writes to of) = []
left_by layout (resets m) = []
left_by layout (locks m) = []
left_by layout (unlocks m) = []
left_by layout (parks c m) = []
left_by layout (wakes c m) = []
left_by layout (signals c w) = []
left_by layout (broadcasts c) = []
left_by layout (joins slot) = []
left_by layout holds_on = []
left_by layout holds_off = []
left_by layout (ends whole) = []

-- the instructions of a deed of a thread, by its slot
abbrev pub deed_group : Layout → ℕ → Deed → List Instruction
deed_group layout t (operates line op) = map (lined line) (group layout t op) ++ left_by layout op
deed_group layout t (inputs line to) = assumes (live layout t) ∷ takes to ∷ []
deed_group layout t (tests line kind test) = assumes (live layout t) ∷ checks test kind line ∷ []
deed_group layout t (supposes line test) = assumes (both (live layout t) test) ∷ []

-- ---- what a deed may be on the thread's own words, threads by their slots

-- the slot that a signal wakes: 0 is nobody
abbrev pub slot_woken : ℕ → Option ℕ
slot_woken zero = None
slot_woken (suc slot) = Some slot

-- the action of an operation that reads no cell
abbrev pub action_of : List ℕ → Operation → Action
action_of m (reads from to) = actions.Loc
action_of m (writes to of) = actions.Wr (spot_of to m) (value of m)
action_of m (resets x) = actions.Reset (spot_of x m)
action_of m (locks x) = actions.Lock (spot_of x m)
action_of m (unlocks x) = actions.Unlock (spot_of x m)
action_of m (parks c x) = actions.Park (spot_of c m) (spot_of x m)
action_of m (wakes c x) = actions.Wake (spot_of c m) (spot_of x m)
action_of m (signals c w) = actions.Signal (spot_of c m) (slot_woken (value w m))
action_of m (broadcasts c) = actions.Broadcast (spot_of c m)
action_of m (creates slot start argument) = actions.Create slot start (value argument m)
action_of m (joins slot) = actions.Join (value slot m)
action_of m holds_on = actions.HoldOn
action_of m holds_off = actions.HoldOff
action_of m (ends whole) = actions.End whole

-- the act of an operation, and what it leaves: a read finds any value, and leaves it
abbrev pub OperationSays : ℕ → Operation → List ℕ → Act → List ℕ → Type 0
OperationSays line (reads from to) m a after = (v : ℕ) × (v < value_bound) × (a ≡ at line (actions.Rd (spot_of from m) v)) × (after ≡ put to v m)
OperationSays line (writes to of) m a after = (a ≡ at line (action_of m (writes to of))) × (after ≡ m)
OperationSays line (resets x) m a after = (a ≡ at line (action_of m (resets x))) × (after ≡ m)
OperationSays line (locks x) m a after = (a ≡ at line (action_of m (locks x))) × (after ≡ m)
OperationSays line (unlocks x) m a after = (a ≡ at line (action_of m (unlocks x))) × (after ≡ m)
OperationSays line (parks c x) m a after = (a ≡ at line (action_of m (parks c x))) × (after ≡ m)
OperationSays line (wakes c x) m a after = (a ≡ at line (action_of m (wakes c x))) × (after ≡ m)
OperationSays line (signals c w) m a after = (a ≡ at line (action_of m (signals c w))) × (after ≡ m)
OperationSays line (broadcasts c) m a after = (a ≡ at line (action_of m (broadcasts c))) × (after ≡ m)
OperationSays line (creates slot start argument) m a after = (a ≡ at line (action_of m (creates slot start argument))) × (after ≡ m)
OperationSays line (joins slot) m a after = (a ≡ at line (action_of m (joins slot))) × (after ≡ m)
OperationSays line holds_on m a after = (a ≡ at line (action_of m holds_on)) × (after ≡ m)
OperationSays line holds_off m a after = (a ≡ at line (action_of m holds_off)) × (after ≡ m)
OperationSays line (ends whole) m a after = (a ≡ at line (action_of m (ends whole))) × (after ≡ m)

-- the act of a deed, and what it leaves, where more may follow
abbrev pub Says : Deed → List ℕ → Act → List ℕ → Type 0
Says (operates line op) m a after = OperationSays line op m a after
Says (inputs line to) m a after = (v : ℕ) × (v < value_bound) × (a ≡ at line (actions.Input v)) × (after ≡ put to v m)
Says (tests line kind test) m a after = (a ≡ at line (actions.Check (value test m) kind)) × (0 < value test m) × (after ≡ m)
Says (supposes line test) m a after = (a ≡ at line (actions.Assume (value test m))) × (0 < value test m) × (after ≡ m)

-- the act of a deed after which nothing follows: a check or an assumption of 0
abbrev pub Stops : Deed → List ℕ → Act → Type 0
Stops (operates line op) m a = ⊥
Stops (inputs line to) m a = ⊥
Stops (tests line kind test) m a = (a ≡ at line (actions.Check 0 kind)) × (value test m ≡ 0)
Stops (supposes line test) m a = (a ≡ at line (actions.Assume 0)) × (value test m ≡ 0)

-- the deeds of a thread, by its slot
abbrev pub slot_deeds : Layout → ℕ → Deeds Deed
slot_deeds layout t = record {
  tail = λ d. length (deed_group layout t d) - 1;
  says = Says;
  stops = Stops;
  ending = λ whole. operates 0 (ends whole);
}
