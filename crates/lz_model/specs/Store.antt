-- Trusted: the shared state, and what an action of a thread does to it (POSIX threads, row by row).
use Rattle.std.specs.Prelude.{ℕ, zero, suc, ◌==◌, Bool, true, false, not, ◌&&◌, ◌||◌, nat_lt, List, [], ◌∷◌, ◌++◌, map, length, replicate, slice_index, slice_index_or, slice_set, Option, Some, None, if◌then◌else◌}
use Rattle.std.specs.List.{list_any}
use Rattle.lz_base.specs.declared.word.BreakKind.{BreakKind}
use Rattle.lz_base.specs.declared.word.BreakKind.TheVariants as kinds
use Rattle.lz_model.specs.declared.actions.Action.{Action}
use Rattle.lz_model.specs.declared.actions.Action.TheVariants.{Loc, Input, Check, Assume, Rd, Wr, Reset, Lock, Unlock, Park, Wake, Signal, Broadcast, Create, Join, HoldOn, HoldOff, End}
use Rattle.lz_model.specs.declared.thread_state.ThreadState.{ThreadState}
use Rattle.lz_model.specs.Actions.{is_shared}

-- The shared state: the value of each cell; the owner of each mutex; the threads that were made, by their
-- numbers, so that thread 0 is one of them from the beginning; the holder of the atomic section; and whether the
-- process is over.
pub record State : Type 0 where
  pub cells : List ℕ
  pub owners : List (Option ℕ)
  pub threads : List ThreadState
  pub holder : Option ℕ
  pub over : Bool

-- a thread that was just made
abbrev pub fresh : ThreadState
fresh = record { waits = None; ended = false; joined = false }

-- the state in which a process with these first values of its cells and so many mutexes begins
abbrev pub opening : List ℕ → ℕ → State
opening cells mutexes =
    record { cells = cells; owners = replicate mutexes None; threads = fresh ∷ []; holder = None; over = false }

-- ---- what an action reads

-- the number is there, and is this one
abbrev pub is_now : Option ℕ → ℕ → Bool
is_now None number = false
is_now (Some other) number = other == number

abbrev pub is_made : State → ℕ → Bool
is_made state thread = nat_lt thread (length state.threads)

abbrev pub thread_at : State → ℕ → ThreadState
thread_at state thread = slice_index_or state.threads thread fresh

abbrev pub owner_of : State → ℕ → Option ℕ
owner_of state mutex = slice_index_or state.owners mutex None

-- the thread waits on the condition
abbrev pub waits_on : ℕ → ThreadState → Bool
waits_on cond thread = is_now thread.waits cond

-- there is a number
abbrev pub is_any : Option ℕ → Bool
is_any None = false
is_any (Some number) = true

-- the thread waits on some condition
abbrev pub is_waiting : ThreadState → Bool
is_waiting thread = is_any thread.waits

-- some thread waits on the condition
abbrev pub has_waiter : State → ℕ → Bool
has_waiter state cond = list_any (waits_on cond) state.threads

-- the mutex has this owner; it has none
abbrev pub owns : State → ℕ → ℕ → Bool
owns state thread mutex = is_now (owner_of state mutex) thread

abbrev pub is_free : State → ℕ → Bool
is_free state mutex = not (is_any (owner_of state mutex))

-- ---- what an action changes

abbrev pub with_owner : State → ℕ → Option ℕ → State
with_owner state mutex owner = record state { owners = slice_set state.owners mutex owner }

abbrev pub with_thread : State → ℕ → ThreadState → State
with_thread state number thread = record state { threads = slice_set state.threads number thread }

-- the thread waits on no condition
abbrev pub awake : ThreadState → ThreadState
awake thread = record thread { waits = None }

-- the thread does not wait where it waited on this condition
abbrev pub woken_from : ℕ → ThreadState → ThreadState
woken_from cond thread = if waits_on cond thread then awake thread else thread

-- ---- what an action comes to

-- It goes, and leads to a state; it is blocked; or it breaks a check.
pub data Acted : Type 0 where
  went : (state : State) → Acted
  blocked : Acted
  broke : (kind : BreakKind) → Acted

-- it goes where the test holds, and is blocked elsewhere
abbrev pub goes_where : Bool → State → Acted
goes_where true state = went state
goes_where false state = blocked

-- it goes where the test holds, and breaks elsewhere
abbrev pub goes_or_breaks : Bool → State → BreakKind → Acted
goes_or_breaks true state kind = went state
goes_or_breaks false state kind = broke kind

-- no action of the thread goes: the process is over, or the thread is not made, or it has ended
abbrev pub is_halted : State → ℕ → Bool
is_halted state thread = state.over || (not (is_made state thread) || (thread_at state thread).ended)

-- another thread is the holder of the atomic section
abbrev pub held_by_another : Option ℕ → ℕ → Bool
held_by_another None thread = false
held_by_another (Some holder) thread = not (holder == thread)

-- a signal that wakes nobody, or this thread
abbrev pub signals : State → ℕ → Option ℕ → Acted
signals state cond None = goes_where (not (has_waiter state cond)) state
signals state cond (Some thread) =
    goes_where (is_made state thread && waits_on cond (thread_at state thread))
    (with_thread state thread (awake (thread_at state thread)))

-- a join of thread 0, of a thread that is not made or of one that was joined breaks, also before the thread ends
abbrev pub joins : State → ℕ → Acted
joins state thread =
    if thread == 0 || (not (is_made state thread) || (thread_at state thread).joined) then broke kinds.Join
    else goes_where (thread_at state thread).ended (with_thread state thread (record (thread_at state thread) { joined = true }))

-- the creation of a thread goes where it has the next number
abbrev pub creates : State → ℕ → Acted
creates state thread = goes_where (thread == length state.threads) (record state { threads = state.threads ++ fresh ∷ [] })

-- what an action comes to, of a thread that is neither halted nor kept out by the holder
abbrev pub act_free : State → ℕ → Action → Acted
act_free state thread Loc = went state
act_free state thread (Input value) = went state
act_free state thread (Check zero kind) = broke kind
act_free state thread (Check (suc value) kind) = went state
act_free state thread (Assume zero) = blocked
act_free state thread (Assume (suc value)) = went state
act_free state thread (Rd cell value) = goes_where (value == slice_index state.cells cell) state
act_free state thread (Wr cell value) = went (record state { cells = slice_set state.cells cell value })
act_free state thread (Reset mutex) = went (with_owner state mutex None)
act_free state thread (Lock mutex) = goes_where (is_free state mutex) (with_owner state mutex (Some thread))
act_free state thread (Unlock mutex) = goes_or_breaks (owns state thread mutex) (with_owner state mutex None) kinds.Unlock
act_free state thread (Park cond mutex) =
    goes_or_breaks (owns state thread mutex)
    (with_thread (with_owner state mutex None) thread (record (thread_at state thread) { waits = Some cond })) kinds.Wait
act_free state thread (Wake cond mutex) =
    goes_where (not (is_waiting (thread_at state thread)) && is_free state mutex) (with_owner state mutex (Some thread))
act_free state thread (Signal cond woken) = signals state cond woken
act_free state thread (Broadcast cond) = went (record state { threads = map (woken_from cond) state.threads })
act_free state thread (Create number start value) = creates state number
act_free state thread (Join number) = joins state number
act_free state thread HoldOn = went (record state { holder = Some thread })
act_free state thread HoldOff = went (if is_now state.holder thread then record state { holder = None } else state)
act_free state thread (End whole) =
    went (record state {
      threads = slice_set state.threads thread (record (thread_at state thread) { ended = true });
      holder = if is_now state.holder thread then None else state.holder;
      over = state.over || whole;
    })

-- what an action of a thread comes to
abbrev pub act : State → ℕ → Action → Acted
act state thread action =
    if is_halted state thread || (is_shared action && held_by_another state.holder thread) then blocked
    else act_free state thread action
