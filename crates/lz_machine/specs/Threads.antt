-- Inner: what a thread may still do from where it stands, Loc left out.
use Rattle.std.specs.Prelude.{◌≡◌, ◌⊎◌, ℕ, zero, suc, ◌-◌, ◌<◌, ◌≤◌, Bool, List, [], ◌∷◌, length, ⊤}
use Rattle.lz_tree.specs.ScopedTrees.{ScopedDefinition, ScopedProgram}
use Rattle.lz_model.specs.Actions.{Act}
use Rattle.lz_model.specs.Behaviours.{Behaviour, ends_with, halts, ◌and_then◌, ◌gives◌}
use Rattle.lz_model.specs.CodeTraces.{Locals, in_frame}
use Rattle.lz_model.specs.Programs.{function_at, value_of, calls_within, EndsThread, CreatesFrom}
use Rattle.lz_model.specs.WithoutLoc.{without_loc}
use Rattle.lz_turns.specs.Stages.{words_of}
use Rattle.lz_stations.specs.Stations.{start, Footing, at_station}
use Rattle.lz_stations.specs.StationTraces.{statement_resumed}

-- ---- frames

-- A call of a function of the program that is under way: where its body stands, and the values of its locals, which are
-- 0 behind the last.
pub record Frame : Type 0 where
  pub function : ℕ
  pub footing : Footing
  pub values : List ℕ

-- What a call under way may still do, where this value is given, with the value that it gives: calls go at most so
-- deep, itself counted.
abbrev pub frame_trace : ScopedProgram → ℕ → ℕ → Frame → ℕ → Behaviour Locals ℕ
frame_trace p n zero frame v = halts
frame_trace p n (suc depth) frame v =
    statement_resumed (calls_within p n depth) n (function_at p frame.function).body frame.footing v gives value_of (function_at p frame.function).gives

-- The calls that are under way, the innermost first: each gives its value to the one that made it.
abbrev pub frames_trace : ScopedProgram → ℕ → ℕ → List Frame → ℕ → Behaviour Locals ℕ
frames_trace p n depth [] v = ends_with v
frames_trace p n depth (frame ∷ callers) v =
    in_frame frame.values (frame_trace p n (depth - length callers) frame v) and_then λ w. frames_trace p n depth callers w

-- ---- threads

-- A thread that goes on: its calls, the innermost first; the numbers that its thread objects hold; the value that is
-- given behind its last action; and the number of the next thread that it creates.
pub record Running : Type 0 where
  pub frames : List Frame
  pub handles : List ℕ
  pub given : ℕ
  pub made : ℕ

-- Whether a thread goes on: it may; a check or an assumption of 0 cut it; nothing more comes, since a loop would begin
-- one turn more than it may; it gave its end; or it is spent, since memory ran out while it was asked for its next action.
pub data Standing : Type 0 where
  going : (running : Running) → Standing
  failed : Standing
  stopped : Standing
  ended : Standing
  spent : Standing

-- A thread, and whether its end ends the process.
pub record Thread : Type 0 where
  pub standing : Standing
  pub whole : Bool

-- the local values outside all calls
abbrev pub outside : List ℕ → Locals
outside handles = record { frame = λ local. 0; handles = words_of handles }

-- These actions, Loc left out, are those of some code and then the end of its thread, and the threads that they create
-- are numbered from this number on.
pub record Acts (code : Behaviour Locals ℕ) (before : Locals) (whole : Bool) (made : ℕ) (acts : List Act) : Type 0 where
  pub full : List Act
  pub does : EndsThread code before whole full
  pub numbered : CreatesFrom full made
  pub seen : without_loc full ≡ acts

-- They may come where calls go at most so deep, for every depth from some depth on.
pub record Comes (p : ScopedProgram) (n : ℕ) (whole : Bool) (running : Running) (acts : List Act) : Type 0 where
  pub least : ℕ
  pub does : (depth : ℕ) → least ≤ depth → Acts (frames_trace p n depth running.frames running.given) (outside running.handles) whole running.made acts

abbrev pub MayGo : ScopedProgram → ℕ → Bool → Standing → List Act → Type 0
MayGo p n whole (going running) acts = (acts ≡ []) ⊎ Comes p n whole running acts
MayGo p n whole failed acts = acts ≡ []
MayGo p n whole stopped acts = acts ≡ []
MayGo p n whole ended acts = acts ≡ []
MayGo p n whole spent acts = acts ≡ []

-- What a thread may still do, where a loop has at most n turns an entry. It may stop at any time.
abbrev pub MayDo : ScopedProgram → ℕ → Thread → List Act → Type 0
MayDo p n thread acts = MayGo p n thread.whole thread.standing acts

-- ---- threads of a program

-- each call is of a function of the program
abbrev pub AreOf : List ScopedDefinition → List Frame → Type 0
AreOf functions [] = ⊤
AreOf functions (frame ∷ callers) = (frame.function < length functions) × AreOf functions callers

abbrev pub StandsOf : List ScopedDefinition → Standing → Type 0
StandsOf functions (going running) = AreOf functions running.frames
StandsOf functions failed = ⊤
StandsOf functions stopped = ⊤
StandsOf functions ended = ⊤
StandsOf functions spent = ⊤

abbrev pub IsOf : List ScopedDefinition → Thread → Type 0
IsOf functions thread = StandsOf functions thread.standing

-- A thread before its first action, which runs this function with these arguments: the number of the first thread that
-- it creates is 1.
abbrev pub first_thread : ℕ → List ℕ → Bool → Thread
first_thread function arguments whole = record {
  standing = going (record { frames = record { function = function; footing = at_station start; values = arguments } ∷ []; handles = []; given = 0; made = 1 });
  whole = whole;
}
