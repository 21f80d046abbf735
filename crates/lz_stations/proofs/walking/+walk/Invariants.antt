use Rattle.std.proofs.Common.{◌+◌, ◌*◌}
use Rattle.lz_tree.specs.ScopedTrees.{scoped_statement}
use Rattle.lz_turns.specs.Stages.{locals_of}
use Rattle.lz_stations.specs.StationsHeld.{flow_of, station_of}
use Rattle.lz_stations.specs.StationRanks.{station_rank}
use Rattle.lz_stations.specs.StatementSizes.{statement_size}
use Rattle.lz_stations.specs.Walks.{Steps, again}
use Rattle.lz_stations.proofs.walking.+walk.Given as goal

abbrev pub decreases-part : goal.decreases-part
decreases-part l = 6 * statement_size (scoped_statement l.s.now)

abbrev pub decreases-enter_part : goal.decreases-enter_part
decreases-enter_part l = 6 * statement_size (scoped_statement l.s.now) + 1

abbrev pub decreases-step : goal.decreases-step
decreases-step l = 6 * statement_size (scoped_statement l.s.now) + 2

abbrev pub decreases-go_on : goal.decreases-go_on
decreases-go_on l = 6 * statement_size (scoped_statement l.s.now) + 3

abbrev pub decreases-walk_value : goal.decreases-walk_value
decreases-walk_value l = 6 * statement_size (scoped_statement l.s.now) + 4

abbrev pub decreases-walk : goal.decreases-walk
decreases-walk l = 6 * statement_size (scoped_statement l.s.now) + 5

-- the statement came to this station
abbrev pub invariant-go_on-loop-next : goal.invariant-go_on-loop-next
invariant-go_on-loop-next l = Steps l.fn.bound (scoped_statement l.s) (station_of l.fn.station) l.fn.value (flow_of l.fn.flow) (locals_of l.fn.locals) (again (station_of l.now) l.held (flow_of l.led)) (locals_of l.locals)

abbrev pub decreases-go_on-loop-next : goal.decreases-go_on-loop-next
decreases-go_on-loop-next l = station_rank l.bound (scoped_statement l.s) (station_of l.now)
