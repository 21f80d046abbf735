use Rattle.std.proofs.Common.{◌≡◌, ◌-◌, length}
use Rattle.lz_ssa.specs.Construction.{write_from}
use Rattle.lz_ssa.specs.Drafts.{drawn}
use Rattle.lz_ssa.proofs.write.write_chain.Given as goal

-- what is left makes the whole
abbrev pub invariant-loop-place : goal.invariant-loop-place
invariant-loop-place l =
    (write_from l.decoder l.first l.guard l.value l.place (l.len - l.place) (drawn l.draft) ≡ write_from l.decoder l.first l.guard l.value 0 l.len (drawn l.initial.draft))
    × (length l.draft.words.items ≡ length l.initial.draft.words.items)
