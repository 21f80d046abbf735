use Rattle.std.proofs.Common.{◌≡◌, ◌-◌, map}
use Rattle.lz_flat.specs.Programs.{marked}
use Rattle.lz_points.specs.Tags.{owns_instruction}
use Rattle.lz_points.proofs.LoopsLemmas.{back_from}
use Rattle.lz_points.proofs.thin.back_pass.Given as goal

-- so far from the end
abbrev pub invariant-loop-left : goal.invariant-loop-left
invariant-loop-left l = map marked l.code ≡ back_from (owns_instruction l.tags l.tag) (l.size - l.left) (map marked l.initial.code)
