-- Inner: where an expression stands and how far it came, without pointers and capacities.
use Rattle.std.specs.Prelude.{ℕ, List, Option, Some, None, slice_index}
use Rattle.lz_base.specs.declared.word.BreakKind.{BreakKind}
use Rattle.lz_base.specs.declared.word.IntType.{IntType}
use Rattle.lz_model.specs.declared.actions.Action.{Action}
use Rattle.lz_model.specs.CodeTraces as model
use Rattle.lz_turns.specs.declared.stage.Locals.{Locals}
use Rattle.lz_turns.specs.declared.stage.Stage as held_stage
use Rattle.lz_turns.specs.declared.stage.Stage.TheVariants as code_stages
use Rattle.lz_turns.specs.declared.stage.Place.{Place, At, Within'}
use Rattle.lz_turns.specs.declared.stage.Came as held_came
use Rattle.lz_turns.specs.declared.stage.Came.TheVariants as code_cames
use Rattle.lz_turns.specs.declared.stage.Move as held_move
use Rattle.lz_turns.specs.declared.stage.Move.TheVariants as code_moves

-- words by their places: 0 behind the last
abbrev pub words_of : List ℕ → ℕ → ℕ
words_of words place = slice_index words place

abbrev pub locals_of : Locals → model.Locals
locals_of locals = record { frame = words_of locals.frame.items; handles = words_of locals.handles.items }

-- Where one node of an expression stands.
pub data Stage : Type 0 where
  start : Stage
  given : Stage
  settled : (value : ℕ) → Stage
  indexed : Stage
  ready : (element : ℕ) → Stage
  old : (element : ℕ) → Stage
  valued : (at : ℕ) → Stage
  writing : (element value : ℕ) → Stage
  operand : (element before : ℕ) → Stage
  first : Stage
  second : (a : ℕ) → Stage
  taken : Stage
  other : Stage
  calling : (values : List ℕ) → Stage
  argument : (values : List ℕ) → Stage
  passing : (objects : List ℕ) (at : ℕ) → Stage
  handed : (objects : List ℕ) (at : ℕ) → Stage
  arguing : (objects values : List ℕ) (at : ℕ) → Stage
  argued : (objects values : List ℕ) (at : ℕ) → Stage
  woken : (cond mutex : ℕ) → Stage
  made : (handle : ℕ) → Stage

abbrev pub stage_of : held_stage.Stage → Stage
stage_of code_stages.Start = start
stage_of code_stages.Given = given
stage_of (code_stages.Settled value) = settled value
stage_of code_stages.Indexed = indexed
stage_of (code_stages.Ready element) = ready element
stage_of (code_stages.Old element) = old element
stage_of (code_stages.Valued at) = valued at
stage_of (code_stages.Writing element value) = writing element value
stage_of (code_stages.Operand element before) = operand element before
stage_of code_stages.First = first
stage_of (code_stages.Second a) = second a
stage_of code_stages.Taken = taken
stage_of code_stages.Other = other
stage_of (code_stages.Calling values) = calling values.items
stage_of (code_stages.Argument values) = argument values.items
stage_of (code_stages.Passing objects at) = passing objects.items at
stage_of (code_stages.Handed objects at) = handed objects.items at
stage_of (code_stages.Arguing objects values at) = arguing objects.items values.items at
stage_of (code_stages.Argued objects values at) = argued objects.items values.items at
stage_of (code_stages.Woken cond mutex) = woken cond mutex
stage_of (code_stages.Made handle) = made handle

-- Where an expression stands: at a stage of its node, or within the part behind which that stage comes.
pub data Point : Type 0 where
  at_stage : (stage : Stage) → Point
  within : (stage : Stage) (inner : Point) → Point

abbrev pub point_of : Place → Point
point_of (At stage) = at_stage (stage_of stage)
point_of (Within' stage p inner) = within (stage_of stage) (point_of inner)

-- How far an expression came, and where it stands behind the next action.
pub data Came : Type 0 where
  settles : (value : ℕ) → Came
  acts : (action : Action) (line : ℕ) (point : Point) → Came
  reads : (cell line : ℕ) (point : Point) → Came
  asks : (line : ℕ) (kind : IntType) (point : Point) → Came
  signals : (cond line : ℕ) (point : Point) → Came
  creates : (routine value line : ℕ) (point : Point) → Came
  calls_on : (function : ℕ) (kinds : List IntType) (values : List ℕ) (point : Point) → Came
  fails : (kind : BreakKind) (line : ℕ) → Came
  refuses : (line : ℕ) → Came
  quits : Came
  stops : Came

abbrev pub came_of : held_came.Came → Came
came_of (code_cames.Done value) = settles value
came_of (code_cames.Acts action line place) = acts action line (point_of place)
came_of (code_cames.Reads cell line place) = reads cell line (point_of place)
came_of (code_cames.Asks line kind place) = asks line kind (point_of place)
came_of (code_cames.Signals cond line place) = signals cond line (point_of place)
came_of (code_cames.Creates routine value line place) = creates routine value line (point_of place)
came_of (code_cames.Calls function kinds values place) = calls_on function kinds.items values.items (point_of place)
came_of (code_cames.Fails kind line) = fails kind line
came_of (code_cames.Refuses line) = refuses line
came_of code_cames.Exits = quits
came_of code_cames.Stops = stops

-- What one node does at a stage: it enters a part, it comes to another stage by no action, or it comes so far.
pub data Move : Type 0 where
  enters : (stage : Stage) → Move
  goes : (stage : Stage) (value : ℕ) → Move
  comes : (came : Came) → Move

abbrev pub move_of : held_move.Move → Move
move_of (code_moves.Enters stage) = enters (stage_of stage)
move_of (code_moves.Goes stage value) = goes (stage_of stage) value
move_of (code_moves.Comes came) = comes (came_of came)

-- what came so far in a part, where it is not done
abbrev pub inside : Stage → Came → Came
inside stage (settles value) = settles value
inside stage (acts action line inner) = acts action line (within stage inner)
inside stage (reads cell line inner) = reads cell line (within stage inner)
inside stage (asks line kind inner) = asks line kind (within stage inner)
inside stage (signals cond line inner) = signals cond line (within stage inner)
inside stage (creates routine value line inner) = creates routine value line (within stage inner)
inside stage (calls_on function kinds values inner) = calls_on function kinds values (within stage inner)
inside stage (fails kind line) = fails kind line
inside stage (refuses line) = refuses line
inside stage quits = quits
inside stage stops = stops

-- the value of what is done
abbrev pub value_if_done : Came → Option ℕ
value_if_done (settles value) = Some value
value_if_done (acts action line inner) = None
value_if_done (reads cell line inner) = None
value_if_done (asks line kind inner) = None
value_if_done (signals cond line inner) = None
value_if_done (creates routine value line inner) = None
value_if_done (calls_on function kinds values inner) = None
value_if_done (fails kind line) = None
value_if_done (refuses line) = None
value_if_done quits = None
value_if_done stops = None
