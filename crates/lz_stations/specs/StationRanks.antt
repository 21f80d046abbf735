-- Inner: how far a statement is from its last station: each step brings it nearer.
use Rattle.std.specs.Prelude.{ℕ, suc, ◌+◌, ◌*◌, ◌-◌, ◌<◌, List, [], ◌∷◌, Option, Some, None, ⊤}
use Rattle.lz_tree.specs.ScopedTrees.{ScopedInitDeclarator, ScopedStatement, ScopedStatements, nil, cons}
use Rattle.lz_model.specs.CodeTraces.{len_of}
use Rattle.lz_stations.specs.Stations as at
use Rattle.lz_stations.specs.Stations.{Station, start, led, evaluated, listing, declaring, filling, arbitrary, filled, initialized, tested, taken, other, opened, turning, turned, bodied, changed, doing, returned, labelled, Pause, acts, reads, asks, signals, creates, calls_on, Reached, leads, pauses, fails, refuses, quits, stops, StationMove, enters_value, enters_part, moves_on, reaches}
use Rattle.lz_stations.specs.StationMoves.{parts_of, declared_by, declarator_at}
use Rattle.lz_stations.specs.StationTraces.{declarators_from}

abbrev pub part_count : ScopedStatements → ℕ
part_count nil = 0
part_count (cons s rest) = suc (part_count rest)

-- the most steps that these declarators take
abbrev pub steps_of : List ScopedInitDeclarator → ℕ
steps_of [] = 0
steps_of (d ∷ rest) = 2 * len_of d.object + 4 + steps_of rest

abbrev pub elements_of : Option ScopedInitDeclarator → ℕ
elements_of None = 0
elements_of (Some d) = len_of d.object

-- of a statement whose loop has at most n turns
abbrev pub station_rank : ℕ → ScopedStatement → Station → ℕ
station_rank n s start = 2 * part_count (parts_of s) + steps_of (declared_by s) + 8 * n + 10
station_rank n s (led flow) = 0
station_rank n s evaluated = 0
station_rank n s (listing k) = 2 * (part_count (parts_of s) - k) + 2
station_rank n s (at.listed k) = 2 * (part_count (parts_of s) - k) + 1
station_rank n s (declaring k) = steps_of (declarators_from (declared_by s) k)
station_rank n s (filling k i) = steps_of (declarators_from (declared_by s) (suc k)) + 2 * (elements_of (declarator_at (declared_by s) k) - i) + 1
station_rank n s (arbitrary k i) = steps_of (declarators_from (declared_by s) (suc k)) + 2 * (elements_of (declarator_at (declared_by s) k) - i)
station_rank n s (filled k i) = steps_of (declarators_from (declared_by s) (suc k)) + 2 * (elements_of (declarator_at (declared_by s) k) - i)
station_rank n s (initialized k) = steps_of (declarators_from (declared_by s) (suc k)) + 1
station_rank n s tested = 1
station_rank n s taken = 0
station_rank n s other = 0
station_rank n s opened = 8 * n + 5
station_rank n s (turning left) = 8 * left + 4
station_rank n s (turned left) = 8 * left + 3
station_rank n s (bodied left) = 8 * left + 6
station_rank n s (changed left) = 8 * left + 5
station_rank n s (doing left) = 8 * left + 2
station_rank n s returned = 0
station_rank n s labelled = 0

-- no pause but for an input
abbrev pub AsksAlone : Pause → Type 0
AsksAlone (acts action line) = ⊥
AsksAlone (reads cell line) = ⊥
AsksAlone (asks line kind) = ⊤
AsksAlone (signals cond line) = ⊥
AsksAlone (creates routine value line) = ⊥
AsksAlone (calls_on function kinds values) = ⊥

abbrev pub IsStill : Reached → Type 0
IsStill (leads flow) = ⊤
IsStill (pauses pause footing) = AsksAlone pause
IsStill (fails kind line) = ⊤
IsStill (refuses line) = ⊤
IsStill quits = ⊤
IsStill stops = ⊤

-- a move leads below this rank, or comes so far without a pause but for an input
abbrev pub FallsTo : ℕ → ScopedStatement → ℕ → StationMove → Type 0
FallsTo n s r (enters_value station) = station_rank n s station < r
FallsTo n s r (enters_part station) = station_rank n s station < r
FallsTo n s r (moves_on station) = station_rank n s station < r
FallsTo n s r (reaches reached) = IsStill reached
