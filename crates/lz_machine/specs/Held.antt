-- Inner: a thread as code holds it, and what a turn of it leads to.
use Rattle.std.specs.Prelude.{Bool, true, false, List, ◌∷◌, map, reverse}
use Rattle.lz_stations.specs.WalksHeld.{footing_of, pause_of}
use Rattle.lz_machine.specs.declared.running.Caller.{Caller}
use Rattle.lz_machine.specs.declared.running.Running as held_running
use Rattle.lz_machine.specs.declared.turn.Turned as held_turned
use Rattle.lz_machine.specs.declared.turn.Turned.TheVariants as code_turned
use Rattle.lz_machine.specs.declared.answer.Standing as held_standing
use Rattle.lz_machine.specs.declared.answer.Standing.TheVariants as code_standing
use Rattle.lz_machine.specs.declared.parts.Parts as held_parts
use Rattle.lz_machine.specs.Threads.{Frame, Running, Standing, going, failed, stopped, ended, spent, Thread}
use Rattle.lz_machine.specs.Turns.{Turned, again, pausing, failing, refusing, leaving, stopping, ending}

abbrev pub caller_of : Caller → Frame
caller_of caller = record { function = caller.function; footing = footing_of caller.footing; values = caller.values.items }

-- the calls that wait, the innermost first
abbrev pub callers_of : List Caller → List Frame
callers_of callers = reverse (map caller_of callers)

abbrev pub running_of : held_running.Running → Running
running_of r = record {
  frames = record { function = r.function; footing = footing_of r.footing; values = r.locals.frame.items } ∷ callers_of r.callers.items;
  handles = r.locals.handles.items;
  given = r.given;
  made = r.made;
}

-- what a turn led to, with the thread behind it
abbrev pub turned_of : held_turned.Turned → held_running.Running → Turned
turned_of code_turned.Again r = again (running_of r)
turned_of (code_turned.Pauses pause) r = pausing (pause_of pause) (running_of r)
turned_of (code_turned.Fails kind line) r = failing kind line
turned_of (code_turned.Refuses line) r = refusing line
turned_of code_turned.Leaves r = leaving
turned_of code_turned.Stops r = stopping
turned_of code_turned.Ends r = ending r.given r.locals.handles.items

abbrev pub is_again : held_turned.Turned → Bool
is_again code_turned.Again = true
is_again (code_turned.Pauses pause) = false
is_again (code_turned.Fails kind line) = false
is_again (code_turned.Refuses line) = false
is_again code_turned.Leaves = false
is_again code_turned.Stops = false
is_again code_turned.Ends = false

-- ---- threads

abbrev pub standing_of : held_standing.Standing → Standing
standing_of (code_standing.Going running) = going (running_of running)
standing_of code_standing.Failed = failed
standing_of code_standing.Stopped = stopped
standing_of code_standing.Ended = ended
standing_of code_standing.Spent = spent

abbrev pub thread_of : held_parts.Parts → Thread
thread_of thread = record { standing = standing_of thread.standing; whole = thread.whole }

-- a thread that stands so
abbrev pub thread_with : Standing → Bool → Thread
thread_with standing whole = record { standing = standing; whole = whole }
