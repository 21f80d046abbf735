use Rattle.std.proofs.Common.{◌≡◌, ◌%◌, ◌++◌, map, take, drop}
use Rattle.lz_base.specs.Words.{value_bound}
use Rattle.lz_points.proofs.visible.restore.Given as goal

abbrev pub invariant-loop-at : goal.invariant-loop-at
invariant-loop-at l = l.tags ≡ map (λ v. v % value_bound) (take l.at l.initial.tags) ++ drop l.at l.initial.tags
