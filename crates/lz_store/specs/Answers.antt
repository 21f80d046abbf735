-- Inner: the answer of a store to an action, and its condition.
use Rattle.std.specs.Prelude.{ℕ, ◌≤◌, ⊤}
use Rattle.lz_base.specs.Limits.{slot_limit}
use Rattle.lz_model.specs.declared.actions.Action.{Action}
use Rattle.lz_model.specs.declared.actions.Action.TheVariants.{Loc, Input, Check, Assume, Rd, Wr, Reset, Lock, Unlock, Park, Wake, Signal, Broadcast, Create, Join, HoldOn, HoldOff, End}
use Rattle.lz_model.specs.Store.{State, went, blocked, broke}
use Rattle.lz_model.specs.Store as model
use Rattle.lz_store.specs.declared.store.Acted.{Acted}
use Rattle.lz_store.specs.declared.store.Acted.TheVariants.{Went, Blocked, Broke}

-- the answer that tells what an action comes to
abbrev pub answer_of : model.Acted → Acted
answer_of (went state) = Went
answer_of blocked = Blocked
answer_of (broke kind) = Broke kind

-- the state behind an action, which is as before where the action does not go
abbrev pub state_behind : State → model.Acted → State
state_behind before (went state) = state
state_behind before blocked = before
state_behind before (broke kind) = before

-- the greatest number of a thread: those that are created are numbered from 1
abbrev pub last_thread : ℕ
last_thread = slot_limit

-- the action creates no thread past the last
abbrev pub IsWithin : Action → Type 0
IsWithin Loc = ⊤
IsWithin (Input value) = ⊤
IsWithin (Check value kind) = ⊤
IsWithin (Assume value) = ⊤
IsWithin (Rd cell value) = ⊤
IsWithin (Wr cell value) = ⊤
IsWithin (Reset mutex) = ⊤
IsWithin (Lock mutex) = ⊤
IsWithin (Unlock mutex) = ⊤
IsWithin (Park cond mutex) = ⊤
IsWithin (Wake cond mutex) = ⊤
IsWithin (Signal cond woken) = ⊤
IsWithin (Broadcast cond) = ⊤
IsWithin (Create thread start value) = thread ≤ last_thread
IsWithin (Join thread) = ⊤
IsWithin HoldOn = ⊤
IsWithin HoldOff = ⊤
IsWithin (End whole) = ⊤
