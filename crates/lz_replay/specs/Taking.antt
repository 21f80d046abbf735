-- Inner: the next action of a thread by the choice of a step.
use Rattle.std.specs.Prelude.{◌≡◌, ◌≢◌, ℕ, suc, ◌<◌, ◌≤◌, ◌==◌, Bool, false, ◌&&◌, nat_lt, List, [], ◌∷◌, ◌++◌, length, slice_index, slice_index_or, Option, Some, None, ⊤}
use Rattle.lz_base.specs.Limits.{slot_limit}
use Rattle.lz_base.specs.Words.{value_bound}
use Rattle.lz_tree.specs.ScopedTrees.{ScopedProgram}
use Rattle.lz_model.specs.declared.actions.Action.{Action}
use Rattle.lz_model.specs.declared.actions.Action.TheVariants.{Rd}
use Rattle.lz_model.specs.declared.schedule.Step.{Step}
use Rattle.lz_model.specs.Actions.{Act, choice_of, Start, started_by}
use Rattle.lz_model.specs.Store.{State, blocked, act}
use Rattle.lz_model.specs.CodeTraces.{at}
use Rattle.lz_machine.specs.Threads as threads
use Rattle.lz_machine.specs.Threads.{stopped, MayDo}
use Rattle.lz_machine.specs.Answers.{Answer, reads, acts, has_ended, is_cut, read_back}
use Rattle.lz_machine.specs.Starts.{IsThreadOf, IsStarted, IsWordAction, word_of}
use Rattle.lz_machine.specs.declared.answer.ReadBack.TheVariants as back
use Rattle.lz_replay.specs.declared.threads.Held.{Held}
use Rattle.lz_replay.specs.declared.threads.Taken.{Taken}
use Rattle.lz_replay.specs.Lines.{some_where}
use Rattle.lz_replay.specs.Stands.{Same, IsNext}

-- ---- what is answered

abbrev pub is_chosen : Option ℕ → ℕ → Bool
is_chosen None choice = false
is_chosen (Some other) choice = other == choice

-- an answered action, where it has the choice
abbrev pub acted : Action → ℕ → ℕ → Option Taken
acted action line choice = some_where (is_chosen (choice_of action) choice) (record { action = action; line = line; read = back.Nothing })

-- a read that finds this value, where the choice is 0 and the value is a word
abbrev pub found : ℕ → ℕ → ℕ → ℕ → Option Taken
found cell line choice value = some_where (choice == 0 && nat_lt value value_bound) (record { action = Rd cell value; line = line; read = back.Value value })

-- what an answer stands for in a state, where it has the choice
abbrev pub taken_of : State → ℕ → Answer → Option Taken
taken_of state choice (reads cell line) = found cell line choice (slice_index state.cells cell)
taken_of state choice (acts action line) = acted action line choice
taken_of state choice has_ended = None
taken_of state choice is_cut = None

-- ---- what is taken

-- how many threads there may be: the first, and those that a program may create
abbrev pub room : ℕ
room = suc slot_limit

-- This is what a thread may do next by this choice, and so it goes on behind it.
pub record Takes (p : ScopedProgram) (n : ℕ) (state : State) (choice : ℕ) (before : threads.Thread) (next : Act) (after : threads.Thread) : Type 0 where
  pub next_ : (step : Step) → step.choice ≡ choice → step.thread < length state.threads → IsNext state step (MayDo p n before) next
  pub here : Same (λ acts. MayDo p n before (next ∷ acts)) (MayDo p n after)

-- Nothing that a thread may do next has this choice and is not blocked.
pub record TakesNone (p : ScopedProgram) (n : ℕ) (state : State) (choice : ℕ) (before : threads.Thread) : Type 0 where
  pub none : (thread : ℕ) → length state.threads ≤ room → (other : Act) → MayDo p n before (other ∷ []) → choice_of other.action ≡ Some choice → act state thread other.action ≢ blocked → ⊥

abbrev pub IsTaken : ScopedProgram → ℕ → State → ℕ → threads.Thread → Option Taken → threads.Thread → Type 0
IsTaken p n state choice before None after = TakesNone p n state choice before
IsTaken p n state choice before (Some taken) after = Takes p n state choice before (at taken.line taken.action) (read_back (word_of taken.read) after)

-- an argument that is taken is a word
abbrev pub IsWord : Taken → Type 0
IsWord taken = IsWordAction taken.action

abbrev pub IsWordTaken : Option Taken → Type 0
IsWordTaken None = ⊤
IsWordTaken (Some taken) = IsWord taken

-- ---- threads

-- the thread behind what was read
abbrev pub thread_of : Held → threads.Thread
thread_of held = read_back (word_of held.read) held.thread

abbrev pub nobody : Held
nobody = record { thread = record { standing = stopped; whole = false }; read = back.Nothing }

-- the thread of this number
abbrev pub thread_at : List Held → ℕ → threads.Thread
thread_at held thread = thread_of (slice_index_or held thread nobody)

-- the thread is one of the program
abbrev pub IsHeldOf : ScopedProgram → Held → Type 0
IsHeldOf p held = IsThreadOf p held.thread

-- a thread that begins so, before its first action
pub record HasBegun (p : ScopedProgram) (routine : Option ℕ) (value : ℕ) (held : Held) : Type 0 where
  pub begins : IsStarted p routine value (thread_of held)
  pub own : IsHeldOf p held

-- one more thread is there
pub record IsAdded (p : ScopedProgram) (routine : Option ℕ) (value : ℕ) (before after : List Held) : Type 0 where
  pub last : Held
  pub begun : HasBegun p routine value last
  pub is : after ≡ before ++ last ∷ []

-- what starts a thread makes it
abbrev pub HasMadeBy : ScopedProgram → Option Start → List Held → List Held → Type 0
HasMadeBy p None before after = after ≡ before
HasMadeBy p (Some start) before after = IsAdded p (Some start.routine) start.argument before after

abbrev pub HasMade : ScopedProgram → Action → List Held → List Held → Type 0
HasMade p action before after = HasMadeBy p (started_by action) before after
