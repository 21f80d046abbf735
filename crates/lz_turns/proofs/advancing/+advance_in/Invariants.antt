use Rattle.std.proofs.Common.{◌+◌, ◌*◌}
use Rattle.lz_tree.specs.ScopedTrees.{scoped_expression}
use Rattle.lz_turns.specs.Stages.{stage_of, locals_of}
use Rattle.lz_turns.specs.Resumed.{Turns, again}
use Rattle.lz_turns.specs.Ranks.{rank}
use Rattle.lz_turns.specs.Sizes.{size}
use Rattle.lz_turns.proofs.advancing.+advance_in.Given as goal

abbrev pub decreases-part : goal.decreases-part
decreases-part l = 5 * size (scoped_expression l.e.now)

abbrev pub decreases-enter : goal.decreases-enter
decreases-enter l = 5 * size (scoped_expression l.e.now) + 1

abbrev pub decreases-turn : goal.decreases-turn
decreases-turn l = 5 * size (scoped_expression l.e.now) + 2

abbrev pub decreases-go_on : goal.decreases-go_on
decreases-go_on l = 5 * size (scoped_expression l.e.now) + 3

abbrev pub decreases-advance_in : goal.decreases-advance_in
decreases-advance_in l = 5 * size (scoped_expression l.e.now) + 4

-- the node came to this stage
abbrev pub invariant-go_on-loop-next : goal.invariant-go_on-loop-next
invariant-go_on-loop-next l = Turns (scoped_expression l.e) (stage_of l.fn.stage) l.fn.value (locals_of l.fn.locals) (again (stage_of l.now) l.held) (locals_of l.locals)

abbrev pub decreases-go_on-loop-next : goal.decreases-go_on-loop-next
decreases-go_on-loop-next l = rank (scoped_expression l.e) (stage_of l.now)
