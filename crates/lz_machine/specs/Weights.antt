-- Inner: how far a thread is from its next action: each call and each return brings it nearer, since no function of the program recurs.
use Rattle.std.specs.Prelude.{ℕ, zero, suc, ◌+◌, ◌*◌, ◌<◌, ◌==◌, max, List, [], ◌∷◌, if◌then◌else◌, ⊤}
use Rattle.lz_tree.specs.ScopedTrees.{ScopedDefinition, ScopedProgram}
use Rattle.lz_model.specs.Programs.{function_at}
use Rattle.lz_stations.specs.StatementNears.{statement_most, statement_left}
use Rattle.lz_machine.specs.Threads.{Frame, Running, AreOf}
use Rattle.lz_machine.specs.Turns.{Turned, again, pausing, failing, refusing, leaving, stopping, ending, Turns, HasCome}

-- the first place of a number in a list
abbrev pub place : List ℕ → ℕ → ℕ
place [] f = 0
place (x ∷ rest) f = if x == f then 0 else suc (place rest f)

-- the most calls that one body makes
abbrev pub most_of_all : ℕ → List ScopedDefinition → ℕ
most_of_all n [] = 0
most_of_all n (d ∷ rest) = max (statement_most n d.body) (most_of_all n rest)

-- more than a call weighs of a function that stands before this place in the order of calls, where a body makes at most so many
abbrev pub weight_before : ℕ → ℕ → ℕ
weight_before most zero = 0
weight_before most (suc k) = weight_before most k + suc (most * suc (weight_before most k))

-- a call that is under way: itself, and for each call that it still makes more than what that weighs
abbrev pub frame_weight : ScopedProgram → List ℕ → ℕ → Frame → ℕ
frame_weight p order n frame =
    suc (statement_left n frame.footing (function_at p frame.function).body * suc (weight_before (most_of_all n p.functions) (place order frame.function)))

abbrev pub weight : ScopedProgram → List ℕ → ℕ → List Frame → ℕ
weight p order n [] = 0
weight p order n (frame ∷ callers) = frame_weight p order n frame + weight p order n callers

-- where a turn leads on, the thread weighs less than this
abbrev pub IsLighter : ScopedProgram → List ℕ → ℕ → ℕ → Turned → Type 0
IsLighter p order n heavy (again running) = weight p order n running.frames < heavy
IsLighter p order n heavy (pausing pause running) = ⊤
IsLighter p order n heavy (failing kind line) = ⊤
IsLighter p order n heavy (refusing line) = ⊤
IsLighter p order n heavy leaving = ⊤
IsLighter p order n heavy stopping = ⊤
IsLighter p order n heavy (ending value handles) = ⊤

-- where it goes on, each call is of a function of the program
abbrev pub StaysOf : List ScopedDefinition → Turned → Type 0
StaysOf functions (again running) = AreOf functions running.frames
StaysOf functions (pausing pause running) = AreOf functions running.frames
StaysOf functions (failing kind line) = ⊤
StaysOf functions (refusing line) = ⊤
StaysOf functions leaving = ⊤
StaysOf functions stopping = ⊤
StaysOf functions (ending value handles) = ⊤

-- ---- what a turn, and turns up to the next action, keep

-- A turn of a thread of the program: it does what it could, it brings the thread nearer to its next action, and the
-- thread stays one of the program.
pub record Advances (p : ScopedProgram) (order : List ℕ) (n : ℕ) (running : Running) (turned : Turned) : Type 0 where
  pub turns : Turns p n running turned
  pub lighter : IsLighter p order n (weight p order n running.frames) turned
  pub stays : StaysOf p.functions turned

-- Turns up to the next action, or to the end.
pub record Arrives (p : ScopedProgram) (n : ℕ) (running : Running) (turned : Turned) : Type 0 where
  pub turns : Turns p n running turned
  pub come : HasCome turned
  pub stays : StaysOf p.functions turned
