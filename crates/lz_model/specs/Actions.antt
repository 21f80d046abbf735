-- Trusted: actions with their lines, and what a schedule says of an action.
use Rattle.std.specs.Prelude.{ℕ, ◌+◌, Bool, true, false, Option, Some, None}
use Rattle.lz_model.specs.declared.actions.Action.{Action}
use Rattle.lz_model.specs.declared.actions.Action.TheVariants.{Loc, Input, Check, Assume, Rd, Wr, Reset, Lock, Unlock, Park, Wake, Signal, Broadcast, Create, Join, HoldOn, HoldOff, End}
use Rattle.lz_model.specs.declared.actions.Event.{Event}

-- An action, with its line: that of the index's object for a check of an index, 0 for the input of a declaration
-- and for the end of a thread, else the line of the node that does the action.
pub record Act : Type 0 where
  pub action : Action
  pub line : ℕ

-- what an event does
abbrev pub act_of : Event → Act
act_of event = record { action = event.action; line = event.line }

-- the event in which a thread does this
abbrev pub event_of : ℕ → Act → Event
event_of thread act = record { thread = thread; action = act.action; line = act.line }

-- a read or write of a local, or a test at which code branches
abbrev pub is_loc : Action → Bool
is_loc Loc = true
is_loc (Input value) = false
is_loc (Check value kind) = false
is_loc (Assume value) = false
is_loc (Rd cell value) = false
is_loc (Wr cell value) = false
is_loc (Reset mutex) = false
is_loc (Lock mutex) = false
is_loc (Unlock mutex) = false
is_loc (Park cond mutex) = false
is_loc (Wake cond mutex) = false
is_loc (Signal cond woken) = false
is_loc (Broadcast cond) = false
is_loc (Create thread start value) = false
is_loc (Join thread) = false
is_loc HoldOn = false
is_loc HoldOff = false
is_loc (End whole) = false

-- The choice of an action: of an input its value, of a signal 0 where nobody is woken and else one more than the
-- number of the woken thread, of every other action 0. A schedule has no step for Loc.
abbrev pub choice_of : Action → Option ℕ
choice_of Loc = None
choice_of (Input value) = Some value
choice_of (Check value kind) = Some 0
choice_of (Assume value) = Some 0
choice_of (Rd cell value) = Some 0
choice_of (Wr cell value) = Some 0
choice_of (Reset mutex) = Some 0
choice_of (Lock mutex) = Some 0
choice_of (Unlock mutex) = Some 0
choice_of (Park cond mutex) = Some 0
choice_of (Wake cond mutex) = Some 0
choice_of (Signal cond None) = Some 0
choice_of (Signal cond (Some thread)) = Some (thread + 1)
choice_of (Broadcast cond) = Some 0
choice_of (Create thread start value) = Some 0
choice_of (Join thread) = Some 0
choice_of HoldOn = Some 0
choice_of HoldOff = Some 0
choice_of (End whole) = Some 0

-- What a thread is started with: its number, its routine and the argument.
pub record Start : Type 0 where
  pub thread : ℕ
  pub routine : ℕ
  pub argument : ℕ

-- what an action starts
abbrev pub started_by : Action → Option Start
started_by Loc = None
started_by (Input value) = None
started_by (Check value kind) = None
started_by (Assume value) = None
started_by (Rd cell value) = None
started_by (Wr cell value) = None
started_by (Reset mutex) = None
started_by (Lock mutex) = None
started_by (Unlock mutex) = None
started_by (Park cond mutex) = None
started_by (Wake cond mutex) = None
started_by (Signal cond woken) = None
started_by (Broadcast cond) = None
started_by (Create thread start value) = Some (record { thread = thread; routine = start; argument = value })
started_by (Join thread) = None
started_by HoldOn = None
started_by HoldOff = None
started_by (End whole) = None

-- the action on what threads share waits where another thread is the holder of the atomic section
abbrev pub is_shared : Action → Bool
is_shared Loc = false
is_shared (Input value) = false
is_shared (Check value kind) = false
is_shared (Assume value) = false
is_shared (Rd cell value) = true
is_shared (Wr cell value) = true
is_shared (Reset mutex) = true
is_shared (Lock mutex) = true
is_shared (Unlock mutex) = true
is_shared (Park cond mutex) = true
is_shared (Wake cond mutex) = true
is_shared (Signal cond woken) = true
is_shared (Broadcast cond) = true
is_shared (Create thread start value) = true
is_shared (Join thread) = true
is_shared HoldOn = true
is_shared HoldOff = false
is_shared (End whole) = false
