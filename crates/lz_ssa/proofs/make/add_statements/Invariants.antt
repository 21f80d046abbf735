use Rattle.std.proofs.Common.{◌≡◌, length, map, drop}
use Rattle.lz_flat.specs.Programs.{statement}
use Rattle.lz_ssa.specs.Construction.{statements_made}
use Rattle.lz_ssa.specs.Drafts.{progress}
use Rattle.lz_ssa.proofs.make.add_statements.Given as goal

-- what is left makes the whole
abbrev pub invariant-loop-i : goal.invariant-loop-i
invariant-loop-i l =
    (statements_made l.i (map statement (drop l.i l.list)) (progress l.building) ≡ statements_made 0 (map statement l.list) (progress l.initial.building))
    × (length l.building.draft.words.items ≡ length l.initial.building.draft.words.items)
