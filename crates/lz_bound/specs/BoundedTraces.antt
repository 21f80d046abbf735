-- Inner: traces of bounded trees, by the traces of code (C99 6.5, 6.8): the same expressions with no call, the same ways of putting code together.
use Rattle.std.specs.Prelude.{ℕ, ◌==◌, nat_lt, Bool, List, Option, Some, None, if◌then◌else◌}
use Rattle.lz_base.specs.Words.{truth, converted}
use Rattle.lz_base.specs.declared.word.BreakKind.TheVariants as kinds
use Rattle.lz_base.specs.declared.word.IntType.{IntType}
use Rattle.lz_tree.specs.declared.scoped.Object.{Object}
use Rattle.lz_tree.specs.declared.scoped.Object.TheVariants.{Local, Cell, Mutex, Cond, Handle, Routine, Known}
use Rattle.lz_model.specs.Actions.{Act}
use Rattle.lz_model.specs.Behaviours.{Behaviour, ends_with, halts, leaves, ◌and_then◌, ◌gives◌, picks}
use Rattle.lz_model.specs.CodeTraces.{Locals, no_calls, checks, decides, kind_of, kind_of_object, expression_trace, write_at, arbitrary_trace, zeros_trace, no_threads_trace}
use Rattle.lz_model.specs.Programs.{begun, EndsThread, CreatesFrom}
use Rattle.lz_bound.specs.BoundedTrees.{BoundedStatement, evals, fresh, clear, nothing, seq, when, frame, leave, exit, stuck, inside}

-- How a statement of a tree leads on: to what follows it, or out of the innermost frame of a number.
pub data Leaving : Type 0 where
  through : Leaving
  left : (number : ℕ) → Leaving

-- what follows code that led on so
abbrev pub passes : {S : Type 0} → Leaving → Behaviour S Leaving → Behaviour S Leaving
passes through rest = rest
passes (left number) rest = ends_with (left number)

-- how a frame leads on whose code led on so
abbrev pub caught : ℕ → Leaving → Leaving
caught number through = through
caught number (left other) = if other == number then through else left other

-- the value, in the kind of the object, into the object
abbrev pub stores : IntType → Option Object → ℕ → Behaviour Locals Leaving
stores kind None v = ends_with through
stores kind (Some x) v = write_at 0 x 0 (converted v kind (kind_of_object x)) gives λ _. through

-- each element of a local is any input
abbrev pub freshens : Object → Behaviour Locals Leaving
freshens (Local first len kind) = arbitrary_trace 0 kind first len gives λ _. through
freshens (Cell first len kind) = halts
freshens (Mutex first len) = halts
freshens (Cond first len) = halts
freshens (Handle first len) = halts
freshens (Routine function) = halts
freshens (Known name) = halts

-- each element of a local is 0, and each thread object without a thread
abbrev pub clears : Object → Behaviour Locals Leaving
clears (Local first len kind) = zeros_trace 0 first len gives λ _. through
clears (Handle first len) = no_threads_trace 0 first len gives λ _. through
clears (Cell first len kind) = halts
clears (Mutex first len) = halts
clears (Cond first len) = halts
clears (Routine function) = halts
clears (Known name) = halts

-- what a statement of a tree may do
abbrev pub bounded_trace : BoundedStatement → Behaviour Locals Leaving
bounded_trace (evals e to) = expression_trace no_calls e and_then λ v. stores (kind_of e) to v
bounded_trace (fresh object) = freshens object
bounded_trace (clear object) = clears object
bounded_trace nothing = ends_with through
bounded_trace (seq first rest) = bounded_trace first and_then λ leaving. passes leaving (bounded_trace rest)
bounded_trace (when test one two) =
    decides 0 (expression_trace no_calls test) λ holds. picks holds (bounded_trace one) (bounded_trace two)
bounded_trace (frame number body) = bounded_trace body gives caught number
bounded_trace (leave number) = ends_with (left number)
bounded_trace (exit whole) = leaves whole
bounded_trace stuck = halts
bounded_trace (inside line index len) =
    expression_trace no_calls index and_then λ i. checks line (truth (nat_lt i len)) kinds.Bounds gives λ _. through

-- The actions are a trace of a thread whose code is the tree.
pub record IsBoundedTrace (tree : BoundedStatement) (arguments : List ℕ) (whole : Bool) (acts : List Act) : Type 0 where
  pub does : EndsThread (bounded_trace tree) (begun arguments) whole acts
  pub numbered : CreatesFrom acts 1
