-- Inner: the processes of bounded and of slotted programs.
use Rattle.std.specs.Prelude.{ℕ, ◌==◌, ◌+◌, length, zero, suc, true, false, List, [], ◌∷◌, if◌then◌else◌, map}
use Rattle.lz_tree.specs.ScopedTrees.{ScopedProgram}
use Rattle.lz_model.specs.Store.{opening}
use Rattle.lz_model.specs.declared.actions.Action.{Action}
use Rattle.lz_model.specs.declared.actions.Action.TheVariants.{Loc, Input, Check, Assume, Rd, Wr, Reset, Lock, Unlock, Park, Wake, Signal, Broadcast, Create, Join, HoldOn, HoldOff, End}
use Rattle.lz_model.specs.declared.actions.Event.{Event}
use Rattle.lz_model.specs.Actions.{Act}
use Rattle.lz_model.specs.Interleavings.{Process}
use Rattle.lz_bound.specs.BoundedTrees.{BoundedStatement, stuck, BoundedRoutine, BoundedProgram, SlottedProgram}
use Rattle.lz_bound.specs.BoundedTraces.{IsBoundedTrace}
use Rattle.lz_tree.specs.declared.scoped.KnownName.{KnownName}
use Rattle.lz_tree.specs.declared.scoped.KnownName.TheVariants as known
use Rattle.lz_tree.specs.declared.scoped.Object.{Object}
use Rattle.lz_tree.specs.declared.scoped.Object.TheVariants.{Local, Cell, Mutex, Cond, Handle, Routine, Known}
use Rattle.lz_tree.specs.ScopedTrees.{ScopedExpression, constant, null, text, object, address, paren, unary, cast, binary, choose, assign, step, call, Lvalue, lvalue, ScopedIndex, whole, element, ScopedExpressions, none, and}
use Rattle.lz_bound.specs.BoundedTrees as tree
use Rattle.lz_bound.specs.CreateSites.{sites, lvalue_sites, all_sites, no_bodies, tree_sites}

-- the code of the routine of a function
abbrev pub routine_in : List BoundedRoutine → ℕ → BoundedStatement
routine_in [] function = stuck
routine_in (r ∷ rest) function = if r.function == function then r.body else routine_in rest function

-- The process of a bounded program: what a create starts is the routine of the function that it names.
abbrev pub bounded_process : ScopedProgram → BoundedProgram → Process
bounded_process p b = record {
  begins = opening p.cells p.mutexes;
  main = λ acts. IsBoundedTrace b.main [] true acts;
  started = λ function argument acts. IsBoundedTrace (routine_in b.routines function) (argument ∷ []) false acts;
}

-- ---- by create sites

-- the code of the k-th slot, the first of which is 0 here
abbrev pub slot_body : List BoundedRoutine → ℕ → BoundedStatement
slot_body [] k = stuck
slot_body (r ∷ rest) zero = r.body
slot_body (r ∷ rest) (suc k) = slot_body rest k

-- the same action, of a create that starts another number
abbrev pub with_start : (ℕ → ℕ) → Action → Action
with_start g Loc = Loc
with_start g (Input v) = Input v
with_start g (Check v kind) = Check v kind
with_start g (Assume v) = Assume v
with_start g (Rd cell v) = Rd cell v
with_start g (Wr cell v) = Wr cell v
with_start g (Reset m) = Reset m
with_start g (Lock m) = Lock m
with_start g (Unlock m) = Unlock m
with_start g (Park c m) = Park c m
with_start g (Wake c m) = Wake c m
with_start g (Signal c woken) = Signal c woken
with_start g (Broadcast c) = Broadcast c
with_start g (Create thread start v) = Create thread (g start) v
with_start g (Join thread) = Join thread
with_start g HoldOn = HoldOn
with_start g HoldOff = HoldOff
with_start g (End w) = End w

-- the same actions, of which creates start other numbers
abbrev pub renamed : (ℕ → ℕ) → List Act → List Act
renamed g acts = map (λ a. record { action = with_start g a.action; line = a.line }) acts

-- the same events, of which creates start other numbers
abbrev pub renamed_events : (ℕ → ℕ) → List Event → List Event
renamed_events g run = map (λ e. record { thread = e.thread; action = with_start g e.action; line = e.line }) run

-- ---- sites by their numbers

-- the arguments of a create that starts this number
abbrev pub starting : ℕ → ScopedExpressions → ScopedExpressions
starting k (and thread (and attribute (and (object (lvalue line (Routine function) index checked) kind) rest))) =
    and thread (and attribute (and (object (lvalue line (Routine k) index checked) kind) rest))
starting k args = args

-- the arguments of a known name, which starts this number if it is a create
abbrev pub started_at : KnownName → ℕ → ScopedExpressions → ScopedExpressions
started_at known.Create k args = starting k args
started_at name k args = args

-- the arguments of a call, which starts this number if it is a create
abbrev pub arguments_at : Object → ℕ → ScopedExpressions → ScopedExpressions
arguments_at (Known name) k args = started_at name k args
arguments_at (Local first len kind) k args = args
arguments_at (Cell first len kind) k args = args
arguments_at (Mutex first len) k args = args
arguments_at (Cond first len) k args = args
arguments_at (Handle first len) k args = args
arguments_at (Routine function) k args = args

abbrev mutual
  -- the expression, of whose create sites so many stand before it, with the number of each site in the place of its function
  pub numbered : ℕ → ScopedExpression → ScopedExpression
  numbered k (constant line value form kind) = constant line value form kind
  numbered k (null line kind) = null line kind
  numbered k (text line kind) = text line kind
  numbered k (object of kind) = object (numbered_lvalue k of) kind
  numbered k (address line of kind) = address line (numbered_lvalue k of) kind
  numbered k (paren line e kind) = paren line (numbered k e) kind
  numbered k (unary line op e kind) = unary line op (numbered k e) kind
  numbered k (cast line to e kind) = cast line to (numbered k e) kind
  numbered k (binary line op a b kind) = binary line op (numbered k a) (numbered (k + length (sites no_bodies a)) b) kind
  numbered k (choose line a b c kind) =
      choose line (numbered k a) (numbered (k + length (sites no_bodies a)) b)
      (numbered (k + length (sites no_bodies a) + length (sites no_bodies b)) c) kind
  numbered k (assign line op to e kind) = assign line op (numbered_lvalue k to) (numbered (k + length (lvalue_sites no_bodies to)) e) kind
  numbered k (step line of up before kind) = step line (numbered_lvalue k of) up before kind
  numbered k (call line callee args kind) =
      call line callee (arguments_at callee (k + length (all_sites no_bodies args)) (numbered_all k args)) kind

  -- that of a place
  pub numbered_lvalue : ℕ → Lvalue → Lvalue
  numbered_lvalue k (lvalue line meant index checked) = lvalue line meant (numbered_index k index) checked

  -- that of an index
  pub numbered_index : ℕ → ScopedIndex → ScopedIndex
  numbered_index k whole = whole
  numbered_index k (element e) = element (numbered k e)

  -- those of expressions in a list
  pub numbered_all : ℕ → ScopedExpressions → ScopedExpressions
  numbered_all k none = none
  numbered_all k (and e rest) = and (numbered k e) (numbered_all (k + length (sites no_bodies e)) rest)

-- the tree, of whose create sites so many stand before it, with the number of each site in the place of its function
abbrev pub numbered_tree : ℕ → BoundedStatement → BoundedStatement
numbered_tree k (tree.evals e to) = tree.evals (numbered k e) to
numbered_tree k (tree.fresh x) = tree.fresh x
numbered_tree k (tree.clear x) = tree.clear x
numbered_tree k tree.nothing = tree.nothing
numbered_tree k (tree.seq a b) = tree.seq (numbered_tree k a) (numbered_tree (k + length (tree_sites a)) b)
numbered_tree k (tree.when test a b) =
    tree.when (numbered k test) (numbered_tree (k + length (sites no_bodies test)) a)
    (numbered_tree (k + length (sites no_bodies test) + length (tree_sites a)) b)
numbered_tree k (tree.frame number body) = tree.frame number (numbered_tree k body)
numbered_tree k (tree.leave number) = tree.leave number
numbered_tree k (tree.exit w) = tree.exit w
numbered_tree k tree.stuck = tree.stuck
numbered_tree k (tree.inside line index len) = tree.inside line (numbered k index) len

-- The process of a slotted program: what a create site starts is the slot of its number.
abbrev pub slotted_process : ScopedProgram → SlottedProgram → Process
slotted_process p s = record {
  begins = opening p.cells p.mutexes;
  main = λ acts. IsBoundedTrace (numbered_tree 0 s.main) [] true acts;
  started = λ site argument acts. IsBoundedTrace (slot_body s.slots site) (argument ∷ []) false acts;
}
