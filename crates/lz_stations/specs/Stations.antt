-- Inner: where a statement stands and how far it came, without pointers and capacities.
use Rattle.std.specs.Prelude.{ℕ, List}
use Rattle.lz_base.specs.declared.word.BreakKind.{BreakKind}
use Rattle.lz_base.specs.declared.word.IntType.{IntType}
use Rattle.lz_model.specs.declared.actions.Action.{Action}
use Rattle.lz_model.specs.CodeTraces.{Flow}
use Rattle.lz_turns.specs.Stages.{Point}

-- Where one statement stands: before its first action; where it led on so; behind the value of an expression; before
-- and behind a part of a block; before a declarator, before an element of its object, behind the input of that element
-- and behind its value; behind the one value of an object; behind the test of `if`, and behind either branch; behind the first part of `for`; before a turn
-- of `while` or `for`, behind its test, its body and its step, with so many turns left; before a turn of `do`; behind
-- the value of `return`; behind the statement of a label.
pub data Station : Type 0 where
  start : Station
  led : (flow : Flow) → Station
  evaluated : Station
  listing : (at : ℕ) → Station
  listed : (at : ℕ) → Station
  declaring : (at : ℕ) → Station
  filling : (at i : ℕ) → Station
  arbitrary : (at i : ℕ) → Station
  filled : (at i : ℕ) → Station
  initialized : (at : ℕ) → Station
  tested : Station
  taken : Station
  other : Station
  opened : Station
  turning : (left : ℕ) → Station
  turned : (left : ℕ) → Station
  bodied : (left : ℕ) → Station
  changed : (left : ℕ) → Station
  doing : (left : ℕ) → Station
  returned : Station
  labelled : Station

-- Where a statement stands: at a station of its own, or within the expression or the statement behind which that
-- station comes.
pub data Footing : Type 0 where
  at_station : (station : Station) → Footing
  in_value : (station : Station) (inner : Point) → Footing
  in_part : (station : Station) (inner : Footing) → Footing

-- The next action of a statement, or the call that comes next: behind it a value is given.
pub data Pause : Type 0 where
  acts : (action : Action) (line : ℕ) → Pause
  reads : (cell line : ℕ) → Pause
  asks : (line : ℕ) (kind : IntType) → Pause
  signals : (cond line : ℕ) → Pause
  creates : (routine value line : ℕ) → Pause
  calls_on : (function : ℕ) (kinds : List IntType) (values : List ℕ) → Pause

-- How far a statement came: it led on so; it pauses, and stands here behind that; a check or an assumption of 0, behind
-- which nothing comes; the end of the thread; or nothing more.
pub data Reached : Type 0 where
  leads : (flow : Flow) → Reached
  pauses : (pause : Pause) (footing : Footing) → Reached
  fails : (kind : BreakKind) (line : ℕ) → Reached
  refuses : (line : ℕ) → Reached
  quits : Reached
  stops : Reached

-- What one statement does at a station: it enters the expression, or the statement, behind which a station comes; it
-- comes to a station by no action; or it comes so far.
pub data StationMove : Type 0 where
  enters_value : (station : Station) → StationMove
  enters_part : (station : Station) → StationMove
  moves_on : (station : Station) → StationMove
  reaches : (reached : Reached) → StationMove
