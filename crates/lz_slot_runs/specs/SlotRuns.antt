-- Inner: runs of threads that go by their slots, and the runs by numbers that they are.
use Rattle.std.specs.Prelude.{◌≡◌, ℕ, suc, ◌<◌, nat_lt, Bool, true, false, not, ◌&&◌, List, [], ◌∷◌, ◌++◌, map, length, Option, Some, None, option_map, ⊤}
use Rattle.lz_model.specs.declared.actions.Action.{Action}
use Rattle.lz_model.specs.declared.actions.Action.TheVariants.{Loc, Input, Check, Assume, Rd, Wr, Reset, Lock, Unlock, Park, Wake, Signal, Broadcast, Create, Join, HoldOn, HoldOff, End}
use Rattle.lz_model.specs.declared.actions.Event.{Event}
use Rattle.lz_model.specs.Actions.{Act, act_of, event_of, started_by}
use Rattle.lz_model.specs.Actions as actions
use Rattle.lz_model.specs.Store.{State, Acted, went, blocked, broke, act}
use Rattle.lz_model.specs.Interleavings.{Process}
use Rattle.lz_model.specs.Programs.{CreatesFrom}
use Rattle.lz_sync.specs.Slots.{thread_of, slot_of, RisesTo}
use Rattle.lz_interleave.specs.Deeds.{Done, gone, waits, fails, Start, no_start, starts, Program}
use Rattle.lz_interleave.specs.Deeds as deeds

-- ---- other names of threads

-- the same action, with other names for the threads in it
abbrev pub with_threads : (ℕ → ℕ) → Action → Action
with_threads f Loc = Loc
with_threads f (Input v) = Input v
with_threads f (Check v kind) = Check v kind
with_threads f (Assume v) = Assume v
with_threads f (Rd cell v) = Rd cell v
with_threads f (Wr cell v) = Wr cell v
with_threads f (Reset m) = Reset m
with_threads f (Lock m) = Lock m
with_threads f (Unlock m) = Unlock m
with_threads f (Park c m) = Park c m
with_threads f (Wake c m) = Wake c m
with_threads f (Signal c woken) = Signal c (option_map f woken)
with_threads f (Broadcast c) = Broadcast c
with_threads f (Create thread start v) = Create (f thread) start v
with_threads f (Join thread) = Join (f thread)
with_threads f HoldOn = HoldOn
with_threads f HoldOff = HoldOff
with_threads f (End w) = End w

-- so an action with its line
abbrev pub act_with : (ℕ → ℕ) → Act → Act
act_with f a = record { action = with_threads f a.action; line = a.line }

-- so the actions of a thread
abbrev pub acts_with : (ℕ → ℕ) → List Act → List Act
acts_with f acts = map (act_with f) acts

-- ---- what is made

-- the slot is made
abbrev pub is_awake : List ℕ → ℕ → Bool
is_awake made slot = nat_lt (thread_of made slot) (suc (length made))

-- the last slot that is made
abbrev pub last_of : ℕ → List ℕ → ℕ
last_of low [] = low
last_of low (slot ∷ rest) = last_of slot rest

-- what a start in the model is here: a thread goes by its slot
abbrev pub start_as : Option actions.Start → Start
start_as None = no_start
start_as (Some start) = starts start.thread start.argument

-- what an action starts, if threads go by their slots
abbrev pub start_in : Act → Start
start_in a = start_as (started_by a.action)

-- the slots that are made after it
abbrev pub grown_by : Start → List ℕ → List ℕ
grown_by no_start made = made
grown_by (starts slot v) made = made ++ slot ∷ []

-- it starts none, or a slot above all that are made, which is not made
abbrev pub may_start : Start → List ℕ → Bool
may_start no_start made = true
may_start (starts slot v) made = nat_lt (last_of 0 made) slot && not (is_awake made slot)

-- ---- runs by slots

-- a state, and the slots that are made, in order
pub record Slotted : Type 0 where
  pub state : State
  pub made : List ℕ

-- what an action comes to, with its line and the slots that are made after it
abbrev pub done_as : ℕ → List ℕ → Acted → Done Slotted
done_as line made (went s) = gone (record { state = s; made = made })
done_as line made blocked = waits
done_as line made (broke kind) = fails kind line

-- it is done if the test holds
abbrev pub where_ : Bool → Done Slotted → Done Slotted
where_ true r = r
where_ false r = waits

-- what an action of a slot does: what the action of its thread does, with threads for slots
abbrev pub slot_act : Slotted → ℕ → Act → Done Slotted
slot_act s slot a =
    where_ (is_awake s.made slot && may_start (start_in a) s.made)
    (done_as a.line (grown_by (start_in a) s.made) (act s.state (thread_of s.made slot) (with_threads (thread_of s.made) a.action)))

-- The runs of slots that begin in this state: a slot with an argument does these lists of actions.
abbrev pub slot_program : State → (ℕ → ℕ → List Act → Type 0) → Program Slotted Act
slot_program begins does = record {
  opening = record { state = begins; made = [] };
  act = slot_act;
  start_of = start_in;
  asleep = λ s slot. not (is_awake s.made slot);
  Does = does;
}

-- ---- the run by numbers

-- the slots that are made in the end
unfoldable pub made_in : List ℕ → List (deeds.Event Act) → List ℕ
made_in made [] = made
made_in made (e ∷ rest) = made_in (grown_by (start_in e.deed) made) rest

-- the events of threads that events of slots are
unfoldable pub by_threads : List ℕ → List (deeds.Event Act) → List Event
by_threads made [] = []
by_threads made (e ∷ rest) = event_of (thread_of made e.thread) (act_with (thread_of made) e.deed) ∷ by_threads (grown_by (start_in e.deed) made) rest

-- so with the same names throughout
abbrev pub events_with : (ℕ → ℕ) → List (deeds.Event Act) → List Event
events_with f es = map (λ e. event_of (f e.thread) (act_with f e.deed)) es

-- the events of slots that events of threads are, with these slots made in the end
abbrev pub by_slots : List ℕ → List Event → List (deeds.Event Act)
by_slots made run = map (λ e. record { thread = slot_of made e.thread; deed = act_with (slot_of made) (act_of e) }) run

-- ---- what threads may do, by slots and by numbers

-- the routines that actions start, in order
abbrev pub routine_before : Option actions.Start → List ℕ → List ℕ
routine_before None rest = rest
routine_before (Some start) rest = start.routine ∷ rest

-- so of a thread's actions
abbrev pub routines_of : List Act → List ℕ
routines_of [] = []
routines_of (a ∷ rest) = routine_before (started_by a.action) (routines_of rest)

-- a creation makes the slot after its routine's number, by this name, below top, and a signal wakes a slot below top
abbrev pub IsNamedWell : ℕ → (ℕ → ℕ) → Action → Type 0
IsNamedWell top f (Create thread start v) = (f thread ≡ suc start) × (f thread < top)
IsNamedWell top f (Signal c (Some thread)) = f thread < top
IsNamedWell top f (Signal c None) = ⊤
IsNamedWell top f Loc = ⊤
IsNamedWell top f (Input v) = ⊤
IsNamedWell top f (Check v kind) = ⊤
IsNamedWell top f (Assume v) = ⊤
IsNamedWell top f (Rd cell v) = ⊤
IsNamedWell top f (Wr cell v) = ⊤
IsNamedWell top f (Reset m) = ⊤
IsNamedWell top f (Lock m) = ⊤
IsNamedWell top f (Unlock m) = ⊤
IsNamedWell top f (Park c m) = ⊤
IsNamedWell top f (Wake c m) = ⊤
IsNamedWell top f (Broadcast c) = ⊤
IsNamedWell top f (Join thread) = ⊤
IsNamedWell top f HoldOn = ⊤
IsNamedWell top f HoldOff = ⊤
IsNamedWell top f (End w) = ⊤

-- so each of a thread's actions
abbrev pub AreNamedWell : ℕ → (ℕ → ℕ) → List Act → Type 0
AreNamedWell top f [] = ⊤
AreNamedWell top f (a ∷ rest) = IsNamedWell top f a.action × AreNamedWell top f rest

-- What slots do is what threads do by other names, whatever the names: main is slot 0, and what creations of routine k
-- start is slot k + 1. Slots are below top, and those that main makes rise.
pub record GoesBySlots (top : ℕ) (process : Process) (does : ℕ → ℕ → List Act → Type 0) : Type 0 where
  pub main_numbered : (acts : List Act) → process.main acts → CreatesFrom acts 1
  pub main_rises : (acts : List Act) → process.main acts → RisesTo top 0 (map suc (routines_of acts))
  pub main_alone : (k v : ℕ) (acts : List Act) → process.started k v acts → routines_of acts ≡ []
  pub none : (slot v : ℕ) → does slot v []
  pub main_there : (f : ℕ → ℕ) → f 0 ≡ 0 → (acts : List Act) → process.main acts → AreNamedWell top f acts → does 0 0 (acts_with f acts)
  pub started_there : (f : ℕ → ℕ) → f 0 ≡ 0 → (k v : ℕ) (acts : List Act) → process.started k v acts → AreNamedWell top f acts → does (suc k) v (acts_with f acts)
  pub slots_are : (slot v : ℕ) (acts : List Act) → does slot v acts → AreNamedWell top (λ thread. thread) acts
  pub slots_alone : (k v : ℕ) (acts : List Act) → does (suc k) v acts → routines_of acts ≡ []
  pub main_back : (f : ℕ → ℕ) → f 0 ≡ 0 → (acts : List Act) → does 0 0 acts → CreatesFrom (acts_with f acts) 1 → process.main (acts_with f acts)
  pub started_back : (f : ℕ → ℕ) → f 0 ≡ 0 → (k v : ℕ) (acts : List Act) → does (suc k) v acts → process.started k v (acts_with f acts)
