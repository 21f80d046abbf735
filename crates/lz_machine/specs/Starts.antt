-- Inner: the programs whose threads can run, how a thread begins, and its answers as code gives them.
use Rattle.std.specs.Prelude.{ℕ, ◌<◌, Bool, true, false, List, [], ◌∷◌, Option, Some, None, ⊤}
use Rattle.std.specs.List.{All}
use Rattle.lz_base.specs.Words.{value_bound}
use Rattle.lz_tree.specs.Calls.{IsCallOrder}
use Rattle.lz_tree.specs.ScopedTrees.{ScopedDefinition, ScopedProgram}
use Rattle.lz_model.specs.declared.actions.Action.{Action}
use Rattle.lz_model.specs.declared.actions.Action.TheVariants.{Create}
use Rattle.lz_model.specs.Actions.{Act}
use Rattle.lz_model.specs.Programs.{IsThreadTrace}
use Rattle.lz_model.specs.WithoutLoc.{IsSeen}
use Rattle.lz_stations.specs.StatementFits.{IsFitStatement}
use Rattle.lz_machine.specs.declared.answer.Next.{Next}
use Rattle.lz_machine.specs.declared.answer.Next.TheVariants as code_next
use Rattle.lz_machine.specs.declared.answer.ReadBack.{ReadBack}
use Rattle.lz_machine.specs.declared.answer.ReadBack.TheVariants as code_back
use Rattle.lz_machine.specs.Threads.{Thread, MayDo, IsOf}
use Rattle.lz_machine.specs.Answers.{Answer, reads, acts, has_ended, is_cut, IsGoing}

-- ---- programs

-- the constants of each body are words, and the elements of its objects have numbers below 2 ^ 32
abbrev pub AreFitBodies : List ScopedDefinition → Type 0
AreFitBodies functions = All (λ d. IsFitStatement d.body) functions

-- A program whose threads can run, with an order of its calls.
pub record IsRunnable (p : ScopedProgram) (order : List ℕ) : Type 0 where
  pub calls : IsCallOrder p.functions order
  pub fit : AreFitBodies p.functions

-- The thread is one of the program.
pub record IsThreadOf (p : ScopedProgram) (thread : Thread) : Type 0 where
  pub of : IsOf p.functions thread

-- ---- how a thread begins

-- The thread goes on, and may do just the traces of this function with these arguments, Loc left out, whatever the turns of loops.
pub record StartsAs (p : ScopedProgram) (function : ℕ) (arguments : List ℕ) (whole : Bool) (thread : Thread) : Type 0 where
  pub there : (n : ℕ) (list : List Act) → MayDo p n thread list → IsSeen (IsThreadTrace p n function arguments whole) list
  pub back : (n : ℕ) (list : List Act) → IsSeen (IsThreadTrace p n function arguments whole) list → MayDo p n thread list
  pub begins : IsGoing thread.standing

-- Thread 0 runs `main`, whose end is that of the process, and another one its routine with its argument.
abbrev pub IsStarted : ScopedProgram → Option ℕ → ℕ → Thread → Type 0
IsStarted p None value thread = StartsAs p p.main [] true thread
IsStarted p (Some routine) value thread = StartsAs p routine (value ∷ []) false thread

-- ---- answers

-- the word that is read back
abbrev pub word_of : ReadBack → Option ℕ
word_of code_back.Nothing = None
word_of (code_back.Value word) = Some word

abbrev pub answer_of : Next → Answer
answer_of (code_next.Read cell line) = reads cell line
answer_of (code_next.Act action line) = acts action line
answer_of code_next.Ended = has_ended
answer_of code_next.Cut = is_cut

-- the argument with which a thread is created is a word
abbrev pub IsWordAction : Action → Type 0
IsWordAction (Create thread routine value) = value < value_bound
IsWordAction action = ⊤

abbrev pub IsWordAnswer : Answer → Type 0
IsWordAnswer (reads cell line) = ⊤
IsWordAnswer (acts action line) = IsWordAction action
IsWordAnswer has_ended = ⊤
IsWordAnswer is_cut = ⊤
