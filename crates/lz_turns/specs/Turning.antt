-- Inner: a turn as code holds it, and what comes behind a part that came so far.
use Rattle.std.specs.Prelude.{◌≡◌, ℕ, suc, ◌*◌, ◌<◌, ⊤}
use Rattle.lz_tree.specs.ScopedTrees.{ScopedExpression, ScopedProgram}
use Rattle.lz_model.specs.CodeTraces.{Locals}
use Rattle.lz_model.specs.Programs.{calls_within}
use Rattle.lz_turns.specs.declared.advancing.Turned as held
use Rattle.lz_turns.specs.declared.advancing.Turned.TheVariants.{Again, Stopped}
use Rattle.lz_turns.specs.Stages.{Stage, stage_of, Point, Came, settles, acts, reads, asks, signals, creates, calls_on, fails, refuses, quits, stops, enters, inside}
use Rattle.lz_turns.specs.Wents.{went_of}
use Rattle.lz_turns.specs.Seen.{Alike}
use Rattle.lz_turns.specs.Nears.{part_calls}
use Rattle.lz_turns.specs.Ranks.{rank_of, rank}
use Rattle.lz_turns.specs.Resumed.{Turned, again, stopped, moved, behind_turn, TurnNears}

-- what came so far stands at this place
abbrev pub turned_of : held.Turned → Point → Turned
turned_of (Again stage value) point = again (stage_of stage) value
turned_of (Stopped went) point = stopped (went_of went point)

-- a node whose part came so far: at the stage behind the part, with its value, or still within it
abbrev pub turned_by : Stage → Came → Turned
turned_by stage (settles value) = again stage value
turned_by stage (acts action line point) = stopped (inside stage (acts action line point))
turned_by stage (reads cell line point) = stopped (inside stage (reads cell line point))
turned_by stage (asks line kind point) = stopped (inside stage (asks line kind point))
turned_by stage (signals cond line point) = stopped (inside stage (signals cond line point))
turned_by stage (creates routine value line point) = stopped (inside stage (creates routine value line point))
turned_by stage (calls_on function kinds values point) = stopped (inside stage (calls_on function kinds values point))
turned_by stage (fails kind line) = stopped (inside stage (fails kind line))
turned_by stage (refuses line) = stopped (inside stage (refuses line))
turned_by stage quits = stopped (inside stage quits)
turned_by stage stops = stopped (inside stage stops)

-- where a node is at a stage again, it is this one
abbrev pub StaysAt : Stage → Turned → Type 0
StaysAt stage (again next value) = next ≡ stage
StaysAt stage (stopped came) = ⊤

-- a node that enters the part behind which this stage comes leads to this turn
pub record Entered (e : ScopedExpression) (stage : Stage) (before : Locals) (turned : Turned) (after : Locals) : Type 0 where
  pub same : (p : ScopedProgram) (n depth : ℕ) → Alike (moved (calls_within p n depth) e (enters stage)) before (behind_turn (calls_within p n depth) e turned) after
  pub stays : StaysAt stage turned
  pub near : TurnNears e (suc (rank e stage) * part_calls e) turned

-- a turn leads below this rank
abbrev pub GoesDown : ℕ → ℕ → Turned → Type 0
GoesDown n r (again stage v) = rank_of n stage < r
GoesDown n r (stopped came) = ⊤
