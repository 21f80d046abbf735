-- Inner: how far a thread comes by one turn: to a call or a return, to its next action, or to its end.
use Rattle.std.specs.Prelude.{◌≡◌, ℕ, zero, suc, ◌≤◌, ◌%◌, Bool, false, List, [], ◌∷◌, Option, ⊤}
use Rattle.lz_base.specs.Words.{value_bound}
use Rattle.lz_base.specs.declared.word.BreakKind.{BreakKind}
use Rattle.lz_base.specs.declared.word.IntType.{IntType}
use Rattle.lz_tree.specs.ScopedTrees.{ScopedProgram}
use Rattle.lz_model.specs.declared.actions.Action.TheVariants.{Input, Check, Assume, Signal, Create, End}
use Rattle.lz_model.specs.Behaviours.{Behaviour, ends_with, halts, leaves, ◌and_then◌}
use Rattle.lz_model.specs.CodeTraces.{Locals, no_calls, does, passed}
use Rattle.lz_model.specs.Programs.{function_at, value_of}
use Rattle.lz_turns.specs.Seen.{Alike}
use Rattle.lz_stations.specs.Stations.{at_station, start, Pause, acts, reads, asks, signals, creates, calls_on, Reached, leads, pauses, fails, refuses, quits, stops}
use Rattle.lz_turns.specs.Nears.{IsPlain}
use Rattle.lz_stations.specs.StationTraces.{paused}
use Rattle.lz_machine.specs.Threads.{Frame, frames_trace, Running, outside, Standing, going, failed, stopped, ended}
use Rattle.lz_machine.specs.Answers as answers
use Rattle.lz_machine.specs.Answers.{Answer, has_ended, is_cut, woken_by}

-- ---- what a statement comes to

abbrev pub IsPlainPause : Pause → Type 0
IsPlainPause (acts action line) = IsPlain action
IsPlainPause (reads cell line) = ⊤
IsPlainPause (asks line kind) = ⊤
IsPlainPause (signals cond line) = ⊤
IsPlainPause (creates routine value line) = ⊤
IsPlainPause (calls_on function kinds values) = ⊤

-- where a statement pauses, that is plain
abbrev pub IsPlainReached : Reached → Type 0
IsPlainReached (leads flow) = ⊤
IsPlainReached (pauses pause footing) = IsPlainPause pause
IsPlainReached (fails kind line) = ⊤
IsPlainReached (refuses line) = ⊤
IsPlainReached quits = ⊤
IsPlainReached stops = ⊤

-- ---- turns of a thread

-- How far a thread came: it goes on, behind a call or a return; it pauses, and goes on so behind that; a check or an
-- assumption of 0; it leaves its code; nothing more comes; or all its calls are done.
pub data Turned : Type 0 where
  again : (running : Running) → Turned
  pausing : (pause : Pause) (running : Running) → Turned
  failing : (kind : BreakKind) (line : ℕ) → Turned
  refusing : (line : ℕ) → Turned
  leaving : Turned
  stopping : Turned
  ending : (value : ℕ) (handles : List ℕ) → Turned

-- what may be done where a thread came so far
abbrev pub turned_trace : ScopedProgram → ℕ → ℕ → Turned → Behaviour Locals ℕ
turned_trace p n depth (again running) = frames_trace p n depth running.frames running.given
turned_trace p n depth (pausing pause running) = paused no_calls pause and_then λ v. frames_trace p n depth running.frames v
turned_trace p n depth (failing kind line) = does line (Check 0 kind) zero and_then λ _. halts
turned_trace p n depth (refusing line) = does line (Assume 0) zero and_then λ _. halts
turned_trace p n depth leaving = leaves false
turned_trace p n depth stopping = halts
turned_trace p n depth (ending value handles) = ends_with value

abbrev pub handles_behind : Turned → List ℕ
handles_behind (again running) = running.handles
handles_behind (pausing pause running) = running.handles
handles_behind (failing kind line) = []
handles_behind (refusing line) = []
handles_behind leaving = []
handles_behind stopping = []
handles_behind (ending value handles) = handles

-- the pause is an action, and no thread was created on the way to it
abbrev pub IsPausing : Turned → ℕ → Type 0
IsPausing (again running) made = running.made ≡ made
IsPausing (pausing (calls_on function kinds values) running) made = ⊥
IsPausing (pausing pause running) made = IsPlainPause pause × (running.made ≡ made)
IsPausing (failing kind line) made = ⊤
IsPausing (refusing line) made = ⊤
IsPausing leaving made = ⊤
IsPausing stopping made = ⊤
IsPausing (ending value handles) made = ⊤

-- A thread comes so far: what it may do is what it may do there, with Loc left out, where calls may go deep enough.
pub record Turns (p : ScopedProgram) (n : ℕ) (running : Running) (turned : Turned) : Type 0 where
  pub least : ℕ
  pub same : (depth : ℕ) → least ≤ depth → Alike (frames_trace p n depth running.frames running.given) (outside running.handles) (turned_trace p n depth turned) (outside (handles_behind turned))
  pub fits : IsPausing turned running.made

-- ---- what one turn comes to

-- a thread whose innermost call stands so
abbrev pub running_with : List Frame → List ℕ → ℕ → ℕ → Running
running_with frames handles given made = record { frames = frames; handles = handles; given = given; made = made }

-- a call that comes back: those that wait go on, where there are any
abbrev pub come_back : List Frame → List ℕ → ℕ → ℕ → Turned
come_back [] handles value made = ending value handles
come_back (frame ∷ callers) handles value made = again (running_with (frame ∷ callers) handles value made)

-- behind a pause of the innermost call: a call is a new innermost one
abbrev pub turned_pause : ScopedProgram → Pause → List Frame → List ℕ → ℕ → Turned
turned_pause p (calls_on function kinds arguments) frames handles made =
    again (running_with (record { function = function; footing = at_station start; values = passed kinds (function_at p function).params arguments } ∷ frames) handles 0 made)
turned_pause p (acts action line) frames handles made = pausing (acts action line) (running_with frames handles 0 made)
turned_pause p (reads cell line) frames handles made = pausing (reads cell line) (running_with frames handles 0 made)
turned_pause p (asks line kind) frames handles made = pausing (asks line kind) (running_with frames handles 0 made)
turned_pause p (signals cond line) frames handles made = pausing (signals cond line) (running_with frames handles 0 made)
turned_pause p (creates routine value line) frames handles made = pausing (creates routine value line) (running_with frames handles 0 made)

-- where the body of the innermost call came so far, with these values of its locals, whose function gives a value of this kind
abbrev pub turned_by : ScopedProgram → Option IntType → ℕ → List ℕ → List Frame → List ℕ → ℕ → Reached → Turned
turned_by p gives function values callers handles made (leads flow) = come_back callers handles (value_of gives flow) made
turned_by p gives function values callers handles made (pauses pause footing) =
    turned_pause p pause (record { function = function; footing = footing; values = values } ∷ callers) handles made
turned_by p gives function values callers handles made (fails kind line) = failing kind line
turned_by p gives function values callers handles made (refuses line) = refusing line
turned_by p gives function values callers handles made quits = leaving
turned_by p gives function values callers handles made stops = stopping

-- a call that begins, behind those under way
abbrev pub begun : Running → ℕ → List ℕ → Running
begun running function values =
    running_with (record { function = function; footing = at_station start; values = values } ∷ running.frames) running.handles 0 running.made

-- ---- what is answered

-- behind an action whose value is this one
abbrev pub going_on : Running → ℕ → ℕ → Standing
going_on running given made = going (running_with running.frames running.handles given made)

-- the answer of a thread that came so far, to a choice
abbrev pub answer_to : ℕ → Bool → Turned → Answer
answer_to choice whole (again running) = is_cut
answer_to choice whole (pausing (acts action line) running) = answers.acts action line
answer_to choice whole (pausing (reads cell line) running) = answers.reads cell line
answer_to choice whole (pausing (asks line kind) running) = answers.acts (Input (choice % value_bound)) line
answer_to choice whole (pausing (signals cond line) running) = answers.acts (Signal cond (woken_by choice)) line
answer_to choice whole (pausing (creates routine value line) running) = answers.acts (Create running.made routine value) line
answer_to choice whole (pausing (calls_on function kinds values) running) = is_cut
answer_to choice whole (failing kind line) = answers.acts (Check 0 kind) line
answer_to choice whole (refusing line) = answers.acts (Assume 0) line
answer_to choice whole leaving = answers.acts (End false) 0
answer_to choice whole stopping = is_cut
answer_to choice whole (ending value handles) = answers.acts (End whole) 0

-- and how the thread stands behind it
abbrev pub standing_behind : ℕ → Turned → Standing
standing_behind choice (again running) = going running
standing_behind choice (pausing (acts action line) running) = going_on running 0 running.made
standing_behind choice (pausing (reads cell line) running) = going_on running 0 running.made
standing_behind choice (pausing (asks line kind) running) = going_on running (choice % value_bound) running.made
standing_behind choice (pausing (signals cond line) running) = going_on running 0 running.made
standing_behind choice (pausing (creates routine value line) running) = going_on running running.made (suc running.made)
standing_behind choice (pausing (calls_on function kinds values) running) = going running
standing_behind choice (failing kind line) = failed
standing_behind choice (refusing line) = failed
standing_behind choice leaving = ended
standing_behind choice stopping = stopped
standing_behind choice (ending value handles) = ended

-- it came to an action, or to its end
abbrev pub HasCome : Turned → Type 0
HasCome (again running) = ⊥
HasCome (pausing pause running) = ⊤
HasCome (failing kind line) = ⊤
HasCome (refusing line) = ⊤
HasCome leaving = ⊤
HasCome stopping = ⊤
HasCome (ending value handles) = ⊤
