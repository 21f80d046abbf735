use Rattle.std.proofs.Common.{◌≡◌, ◌≤◌, [], drop}
use Rattle.lz_calls.specs.Reaching.{work_left, Search, Looking}
use Rattle.lz_calls.proofs.reaching.reach.Given as goal

abbrev pub invariant-loop-s : goal.invariant-loop-s
invariant-loop-s l = Search l.graph l.starts (drop l.s-index l.starts) l.marks.items l.work.items

abbrev pub invariant-loop-f : goal.invariant-loop-f
invariant-loop-f l = Search l.graph l.starts [] l.marks.items l.work.items

abbrev pub invariant-loop-g : goal.invariant-loop-g
invariant-loop-g l = Looking l.graph l.starts l.f (drop l.g-index l.g-items) l.marks.items l.work.items × (work_left l.marks.items l.work.items ≤ work_left l.initial.marks.items l.initial.work.items)

abbrev pub decreases-loop-f : goal.decreases-loop-f
decreases-loop-f l = work_left l.marks.items l.work.items
