-- Courses of events that were worked out by hand, each shown to lead where it should. Loc is left out where it
-- changes nothing.
use Rattle.std.proofs.Common.{◌≡◌, ℕ, true, false, List, [], ◌∷◌, Some, None, refl}
use Rattle.lz_base.specs.declared.word.BreakKind.TheVariants as kinds
use Rattle.lz_model.specs.declared.actions.Action.{Action}
use Rattle.lz_model.specs.declared.actions.Action.TheVariants.{Loc, Check, Assume, Rd, Wr, Lock, Unlock, Park, Wake, Signal, Broadcast, Create, Join, HoldOn, HoldOff, End}
use Rattle.lz_model.specs.declared.actions.Event.{Event}
use Rattle.lz_model.specs.Store.{opening, fresh}
use Rattle.lz_model.specs.Interleavings.{going, stuck, broken, course}
use Rattle.lz_model.specs.BrokenRuns.{rounds_of_run}

-- thread, action, line
abbrev pub of : ℕ → Action → ℕ → Event
of thread action line = record { thread = thread; action = action; line = line }

-- ---- two threads increment one cell, and the first one's write undoes the second one's

abbrev pub lost_update : List Event
lost_update =
    of 0 (Create 1 1 0) 8 ∷ of 0 (Create 2 1 0) 9 ∷ of 1 (Rd 0 0) 3 ∷ of 2 (Rd 0 0) 3 ∷ of 2 (Wr 0 1) 3 ∷ of 2 (End false) 0
    ∷ of 1 (Wr 0 1) 3 ∷ of 1 (End false) 0 ∷ of 0 (Join 1) 10 ∷ of 0 (Join 2) 11 ∷ of 0 (Rd 0 1) 12 ∷ of 0 (Check 0 kinds.Assert) 12 ∷ []

pub lost_update_breaks : course lost_update (opening (0 ∷ []) 0) ≡ broken kinds.Assert 12
lost_update_breaks = refl

pub lost_update_takes_three_rounds : rounds_of_run lost_update ≡ 3
lost_update_takes_three_rounds = refl

-- ---- signals

-- a signal with no waiter is lost: the thread that waits later is never woken
pub lost_signal : course
    (of 0 (Signal 0 None) 8 ∷ of 0 (Create 1 1 0) 9 ∷ of 1 (Lock 0) 4 ∷ of 1 (Park 0 0) 5 ∷ of 1 (Wake 0 0) 5 ∷ [])
    (opening [] 1) ≡ stuck
lost_signal = refl

-- a signal that comes later wakes it
pub signal_wakes : course
    (of 0 (Create 1 1 0) 8 ∷ of 1 (Lock 0) 4 ∷ of 1 (Park 0 0) 5 ∷ of 0 (Signal 0 (Some 1)) 9 ∷ of 1 (Wake 0 0) 5 ∷ of 1 (Check 0 kinds.Assert) 6 ∷ [])
    (opening [] 1) ≡ broken kinds.Assert 6
signal_wakes = refl

-- where a thread waits, a signal wakes one
pub signal_wakes_someone : course
    (of 0 (Create 1 1 0) 8 ∷ of 1 (Lock 0) 4 ∷ of 1 (Park 0 0) 5 ∷ of 0 (Signal 0 None) 9 ∷ [])
    (opening [] 1) ≡ stuck
signal_wakes_someone = refl

-- a woken thread takes the mutex only once it is free
pub woken_waits_for_the_mutex : course
    (of 0 (Create 1 1 0) 8 ∷ of 1 (Lock 0) 4 ∷ of 1 (Park 0 0) 5 ∷ of 0 (Lock 0) 9 ∷ of 0 (Signal 0 (Some 1)) 10 ∷ of 1 (Wake 0 0) 5 ∷ [])
    (opening [] 1) ≡ stuck
woken_waits_for_the_mutex = refl

-- a broadcast wakes each waiter, and those of another condition wait on
pub broadcast_wakes_all : course
    (of 0 (Create 1 1 0) 1 ∷ of 0 (Create 2 1 0) 1 ∷ of 1 (Lock 0) 2 ∷ of 1 (Park 0 0) 2 ∷ of 2 (Lock 0) 2 ∷ of 2 (Park 1 0) 2 ∷ of 0 (Broadcast 0) 3 ∷ [])
    (opening [] 1)
    ≡ going (record {
      cells = [];
      owners = None ∷ [];
      threads = fresh ∷ fresh ∷ record { waits = Some 1; ended = false; joined = false } ∷ [];
      holder = None;
      over = false;
    })
broadcast_wakes_all = refl

-- ---- mutexes

pub unlock_by_another_thread : course (of 0 (Create 1 1 0) 1 ∷ of 0 (Lock 0) 2 ∷ of 1 (Unlock 0) 3 ∷ []) (opening [] 1) ≡ broken kinds.Unlock 3
unlock_by_another_thread = refl

pub wait_without_the_mutex : course (of 0 (Park 0 0) 3 ∷ []) (opening [] 1) ≡ broken kinds.Wait 3
wait_without_the_mutex = refl

-- a thread that locks a mutex which it owns is blocked
pub lock_twice : course (of 0 (Lock 0) 2 ∷ of 0 (Lock 0) 3 ∷ []) (opening [] 1) ≡ stuck
lock_twice = refl

-- ---- joins

pub join_before_the_end : course (of 0 (Create 1 1 0) 1 ∷ of 0 (Join 1) 2 ∷ []) (opening [] 0) ≡ stuck
join_before_the_end = refl

pub join_of_a_joined_thread : course
    (of 0 (Create 1 1 0) 1 ∷ of 1 (End false) 0 ∷ of 0 (Join 1) 2 ∷ of 0 (Join 1) 3 ∷ []) (opening [] 0) ≡ broken kinds.Join 3
join_of_a_joined_thread = refl

pub join_of_no_thread : course (of 0 (Join 0) 2 ∷ []) (opening [] 0) ≡ broken kinds.Join 2
join_of_no_thread = refl

pub join_of_a_thread_that_is_not_made : course (of 0 (Join 1) 2 ∷ []) (opening [] 0) ≡ broken kinds.Join 2
join_of_a_thread_that_is_not_made = refl

-- ---- ends

-- behind the end of the process no thread does anything, not even on its own
pub return_of_main_ends_all : course (of 0 (Create 1 1 0) 1 ∷ of 0 (End true) 0 ∷ of 1 Loc 2 ∷ []) (opening [] 0) ≡ stuck
return_of_main_ends_all = refl

-- behind an end of `main` by `pthread_exit` the others go on
pub exit_of_main_ends_it_alone : course
    (of 0 (Create 1 1 0) 1 ∷ of 0 (End false) 0 ∷ of 1 Loc 2 ∷ of 1 (Check 0 kinds.Reached) 2 ∷ []) (opening [] 0) ≡ broken kinds.Reached 2
exit_of_main_ends_it_alone = refl

-- a thread that has ended does nothing more, and a thread that is not made does nothing
pub ended_does_nothing : course (of 0 (End false) 0 ∷ of 0 Loc 1 ∷ []) (opening [] 0) ≡ stuck
ended_does_nothing = refl

pub not_made_does_nothing : course (of 1 Loc 1 ∷ []) (opening [] 0) ≡ stuck
not_made_does_nothing = refl

-- ---- atomic sections

-- another thread's read waits for the holder, its check does not
pub holder_keeps_out_reads : course (of 0 (Create 1 1 0) 1 ∷ of 0 HoldOn 2 ∷ of 1 (Rd 0 5) 3 ∷ []) (opening (5 ∷ []) 0) ≡ stuck
holder_keeps_out_reads = refl

pub holder_keeps_out_no_check : course
    (of 0 (Create 1 1 0) 1 ∷ of 0 HoldOn 2 ∷ of 1 (Check 0 kinds.Assert) 3 ∷ []) (opening (5 ∷ []) 0) ≡ broken kinds.Assert 3
holder_keeps_out_no_check = refl

-- only the holder lets go, and its end does so too
pub another_does_not_let_go : course
    (of 0 (Create 1 1 0) 1 ∷ of 0 HoldOn 2 ∷ of 1 HoldOff 3 ∷ of 1 (Rd 0 5) 3 ∷ []) (opening (5 ∷ []) 0) ≡ stuck
another_does_not_let_go = refl

pub end_lets_go : course
    (of 0 (Create 1 1 0) 1 ∷ of 0 HoldOn 2 ∷ of 0 (End false) 0 ∷ of 1 (Rd 0 5) 3 ∷ of 1 (Check 0 kinds.Assert) 3 ∷ [])
    (opening (5 ∷ []) 0) ≡ broken kinds.Assert 3
end_lets_go = refl

-- ---- assumptions and reads

-- the write of a thread that is then blocked counts
pub write_before_a_failed_assumption : course
    (of 0 (Create 1 1 0) 9 ∷ of 1 (Wr 0 1) 3 ∷ of 0 (Rd 0 1) 10 ∷ of 0 (Check 0 kinds.Assert) 10 ∷ []) (opening (0 ∷ []) 0) ≡ broken kinds.Assert 10
write_before_a_failed_assumption = refl

pub failed_assumption_blocks : course (of 0 (Assume 0) 4 ∷ []) (opening [] 0) ≡ stuck
failed_assumption_blocks = refl

-- nothing comes behind a break
pub nothing_behind_a_break : course (of 0 (Check 0 kinds.Assert) 3 ∷ of 0 Loc 4 ∷ []) (opening [] 0) ≡ stuck
nothing_behind_a_break = refl
