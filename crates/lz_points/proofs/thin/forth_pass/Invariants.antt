use Rattle.std.proofs.Common.{◌≡◌, true, length, map}
use Rattle.std.specs.Prelude.{◌==◌}
use Rattle.lz_flat.specs.Programs.{marked}
use Rattle.lz_points.specs.Tags.{NamesWithin, owns_instruction}
use Rattle.lz_points.proofs.LoopsLemmas.{forth_from}
use Rattle.lz_points.proofs.thin.forth_pass.Given as goal

-- what is left makes the whole
abbrev pub invariant-loop-at : goal.invariant-loop-at
invariant-loop-at l = record {
  left : forth_from (owns_instruction l.tags l.tag) l.at (l.at == 0) (map marked l.code) ≡ forth_from (owns_instruction l.tags l.tag) 0 true (map marked l.initial.code);
  within : NamesWithin (length l.tags) (map marked l.code);
}
