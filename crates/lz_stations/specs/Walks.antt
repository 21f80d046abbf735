-- Inner: how far a statement comes from a footing in it, and the steps by which it comes there.
use Rattle.std.specs.Prelude.{◌≡◌, ℕ, suc, ⊤, ◌*◌, ◌<◌, ◌≤◌, Option, Some, None}
use Rattle.lz_tree.specs.ScopedTrees.{ScopedStatement, ScopedProgram}
use Rattle.lz_model.specs.Behaviours.{Behaviour}
use Rattle.lz_model.specs.CodeTraces.{Locals, Calls, Flow, normal}
use Rattle.lz_model.specs.Programs.{calls_within}
use Rattle.lz_turns.specs.Stages as stages
use Rattle.lz_turns.specs.Stages.{Came, settles}
use Rattle.lz_turns.specs.Seen.{Alike}
use Rattle.lz_stations.specs.Stations.{Station, Footing, in_value, in_part, acts, reads, asks, signals, creates, calls_on, Reached, leads, pauses, fails, refuses, quits, stops, enters_value, enters_part}
use Rattle.lz_stations.specs.StationTraces.{station_trace, statement_resumed, behind_reached, station_moved}
use Rattle.lz_stations.specs.StationRanks.{station_rank}
use Rattle.lz_stations.specs.StatementNears.{inner_most, statement_left, StatementNears}

-- A statement comes so far, from this footing and these local values to those, where its loop has at most `bound`
-- turns, whatever the depth of the program's calls; each call brings it nearer to its end.
pub record StatementComes (bound : ℕ) (s : ScopedStatement) (footing : Footing) (given : ℕ) (before : Locals) (reached : Reached) (after : Locals) : Type 0 where
  pub same : (p : ScopedProgram) (n depth : ℕ) → Alike (statement_resumed (calls_within p n depth) bound s footing given) before (behind_reached (calls_within p n depth) bound s reached) after
  pub near : StatementNears bound s (statement_left bound footing s) reached

-- A statement comes so far, where there is one; where there is none, nothing comes.
abbrev pub InnerComes : ℕ → Option ScopedStatement → Footing → ℕ → Locals → Reached → Locals → Type 0
InnerComes bound None footing v before reached after = reached ≡ stops
InnerComes bound (Some s) footing v before reached after = StatementComes bound s footing v before reached after

-- What one step leads to: to another station of the same statement, behind an expression with this value and a
-- statement that led on so, or so far.
pub data Stepped : Type 0 where
  again : (station : Station) (value : ℕ) (flow : Flow) → Stepped
  stopped : (reached : Reached) → Stepped

abbrev pub behind_step : Calls → ℕ → ScopedStatement → Stepped → Behaviour Locals Flow
behind_step calls n s (again station v flow) = station_trace calls n s station v flow
behind_step calls n s (stopped reached) = behind_reached calls n s reached

-- a statement comes so near by a step, where so many calls were left
abbrev pub StepNears : ℕ → ScopedStatement → ℕ → Stepped → Type 0
StepNears n s left (again station v flow) = station_rank n s station * suc (inner_most n s) ≤ left
StepNears n s left (stopped reached) = StatementNears n s left reached

-- a statement comes by steps from one station to this, with these local values
pub record Steps (bound : ℕ) (s : ScopedStatement) (station : Station) (v : ℕ) (flow : Flow) (before : Locals) (stepped : Stepped) (after : Locals) : Type 0 where
  pub same : (p : ScopedProgram) (n depth : ℕ) → Alike (station_trace (calls_within p n depth) bound s station v flow) before (behind_step (calls_within p n depth) bound s stepped) after
  pub near : StepNears bound s (station_rank bound s station * suc (inner_most bound s)) stepped

-- a statement whose expression came so far: at the station behind it, with its value, or still within it
abbrev pub stepped_by_value : Station → Came → Stepped
stepped_by_value station (settles v) = again station v normal
stepped_by_value station (stages.acts action line point) = stopped (pauses (acts action line) (in_value station point))
stepped_by_value station (stages.reads cell line point) = stopped (pauses (reads cell line) (in_value station point))
stepped_by_value station (stages.asks line kind point) = stopped (pauses (asks line kind) (in_value station point))
stepped_by_value station (stages.signals cond line point) = stopped (pauses (signals cond line) (in_value station point))
stepped_by_value station (stages.creates routine value line point) = stopped (pauses (creates routine value line) (in_value station point))
stepped_by_value station (stages.calls_on function kinds values point) = stopped (pauses (calls_on function kinds values) (in_value station point))
stepped_by_value station (stages.fails kind line) = stopped (fails kind line)
stepped_by_value station (stages.refuses line) = stopped (refuses line)
stepped_by_value station stages.quits = stopped quits
stepped_by_value station stages.stops = stopped stops

-- a statement a part of which came so far: at the station behind it, as it led on, or still within it
abbrev pub stepped_by_part : Station → Reached → Stepped
stepped_by_part station (leads flow) = again station 0 flow
stepped_by_part station (pauses pause footing) = stopped (pauses pause (in_part station footing))
stepped_by_part station (fails kind line) = stopped (fails kind line)
stepped_by_part station (refuses line) = stopped (refuses line)
stepped_by_part station quits = stopped quits
stepped_by_part station stops = stopped stops

-- where a statement is at a station again, it is this one
abbrev pub StaysAt : Station → Stepped → Type 0
StaysAt station (again next v flow) = next ≡ station
StaysAt station (stopped reached) = ⊤

-- a statement that enters the expression behind which this station comes leads to this step, whatever its turns
pub record EnteredValue (s : ScopedStatement) (station : Station) (before : Locals) (stepped : Stepped) (after : Locals) : Type 0 where
  pub same : (p : ScopedProgram) (n bound depth : ℕ) → Alike (station_moved (calls_within p n depth) bound s (enters_value station)) before (behind_step (calls_within p n depth) bound s stepped) after
  pub stays : StaysAt station stepped
  pub near : (bound : ℕ) → StepNears bound s (suc (station_rank bound s station) * suc (inner_most bound s)) stepped

-- a statement that enters the statement behind which this station comes leads to this step
pub record EnteredPart (bound : ℕ) (s : ScopedStatement) (station : Station) (before : Locals) (stepped : Stepped) (after : Locals) : Type 0 where
  pub same : (p : ScopedProgram) (n depth : ℕ) → Alike (station_moved (calls_within p n depth) bound s (enters_part station)) before (behind_step (calls_within p n depth) bound s stepped) after
  pub stays : StaysAt station stepped
  pub near : StepNears bound s (suc (station_rank bound s station) * suc (inner_most bound s)) stepped

-- a statement comes so far behind this step
pub record ComesBehind (bound : ℕ) (s : ScopedStatement) (stepped : Stepped) (before : Locals) (reached : Reached) (after : Locals) : Type 0 where
  pub same : (p : ScopedProgram) (n depth : ℕ) → Alike (behind_step (calls_within p n depth) bound s stepped) before (behind_reached (calls_within p n depth) bound s reached) after
  pub near : (left : ℕ) → StepNears bound s left stepped → StatementNears bound s left reached

-- a step leads below this rank
abbrev pub GoesDown : ℕ → ScopedStatement → ℕ → Stepped → Type 0
GoesDown n s r (again station v flow) = station_rank n s station < r
GoesDown n s r (stopped reached) = ⊤
