-- Trusted: what the threads of a program may do, and when the program is violated within its bounds.
use Rattle.std.specs.Prelude.{◌≡◌, ℕ, zero, suc, Bool, true, false, List, [], ◌∷◌, ◌++◌, Option, Some, None, ⊤}
use Rattle.lz_base.specs.Words.{converted}
use Rattle.lz_base.specs.declared.word.IntType.{IntType}
pub use Rattle.lz_tree.specs.ScopedTrees.{function_at}
use Rattle.lz_tree.specs.ScopedTrees.{ScopedProgram}
use Rattle.lz_model.specs.declared.actions.Action.TheVariants.{End}
use Rattle.lz_model.specs.Actions.{Act, Start, started_by}
use Rattle.lz_model.specs.Store.{opening}
use Rattle.lz_model.specs.Behaviours.{done, exits, cut, Behaviour, halts, ◌gives◌}
use Rattle.lz_model.specs.CodeTraces.{Locals, frame_of, Calls, kind_or, Flow, normal, breaks, continues, returns, statement_trace}
use Rattle.lz_model.specs.Interleavings.{Process}
use Rattle.lz_model.specs.BrokenRuns.{IsViolated}

-- ---- calls

-- the value that a function gives behind its body: that which it returns, in the kind of its result, and 0 where
-- it comes to its end
abbrev pub value_of : Option IntType → Flow → ℕ
value_of result normal = 0
value_of result breaks = 0
value_of result continues = 0
value_of result (returns kind value) = converted value kind (kind_or result)

-- what calls do where they go at most so deep: each does the body of its function
abbrev pub calls_within : ScopedProgram → ℕ → ℕ → Calls
calls_within p n zero = record { params = λ function. (function_at p function).params; does = λ function. halts }
calls_within p n (suc depth) = record {
  params = λ function. (function_at p function).params;
  does = λ function. statement_trace (calls_within p n depth) n (function_at p function).body gives value_of (function_at p function).gives;
}

-- ---- threads

-- the local values with which a thread begins: its arguments, and 0 in all others and in each thread object
abbrev pub begun : List ℕ → Locals
begun arguments = record { frame = frame_of arguments; handles = λ handle. 0 }

abbrev pub end_of : Bool → Act
end_of whole = record { action = End whole; line = 0 }

-- The actions are what the code does and then the end of its thread: the code is cut; or it is done, or the thread
-- leaves it, and the end follows.
pub data EndsThread {S A : Type 0} (code : Behaviour S A) (before : S) (whole : Bool) (acts : List Act) : Type 0 where
  is_cut : code before acts cut → EndsThread code before whole acts
  is_done : (front : List Act) (after : S) (value : A) → code before front (done after value) → acts ≡ front ++ end_of whole ∷ [] → EndsThread code before whole acts
  is_left : (front : List Act) (whole_ : Bool) → code before front (exits whole_) → acts ≡ front ++ end_of whole_ ∷ [] → EndsThread code before whole acts

-- the number is next where a thread is started, and the later ones follow
abbrev pub numbered_after : Option Start → ℕ → (ℕ → Type 0) → Type 0
numbered_after None next later = later next
numbered_after (Some start) next later = (start.thread ≡ next) × later (suc next)

-- the threads that the actions create are numbered from this number on, in order
abbrev pub CreatesFrom : List Act → ℕ → Type 0
CreatesFrom [] next = ⊤
CreatesFrom (act ∷ acts) next = numbered_after (started_by act.action) next (CreatesFrom acts)

-- The actions are a trace of a thread that runs this function with these arguments: calls may go to any depth, and
-- the threads that it creates are numbered from 1.
pub record IsThreadTrace (p : ScopedProgram) (n function : ℕ) (arguments : List ℕ) (whole : Bool) (acts : List Act) : Type 0 where
  pub depth : ℕ
  pub does : EndsThread ((calls_within p n depth).does function) (begun arguments) whole acts
  pub numbered : CreatesFrom acts 1

-- The process of a program, where a loop has at most n turns an entry: thread 0 runs `main`, whose end is that of the
-- process, and a thread that is started runs its routine with its argument.
abbrev pub process_of : ScopedProgram → ℕ → Process
process_of p n = record {
  begins = opening p.cells p.mutexes;
  main = λ acts. IsThreadTrace p n p.main [] true acts;
  started = λ routine argument acts. IsThreadTrace p n routine (argument ∷ []) false acts;
}

-- some run of at most k rounds, with at most n turns of each entered loop, ends in a check that breaks
abbrev pub IsViolatedWithin : ScopedProgram → ℕ → ℕ → Type 0
IsViolatedWithin p n k = IsViolated (process_of p n) k
