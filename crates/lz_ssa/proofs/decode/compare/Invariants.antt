use Rattle.std.proofs.Common.{◌≡◌, ◌-◌, ◌*◌, length}
use Rattle.lz_ssa.specs.Construction.{compare_from, compared_none}
use Rattle.lz_ssa.specs.Drafts.{drawn}
use Rattle.lz_ssa.proofs.decode.compare.Given as goal

-- what is left makes the whole, and there is a test for each number so far
abbrev pub invariant-loop-i : goal.invariant-loop-i
invariant-loop-i l =
    (compare_from l.node (l.i * l.step) l.step (l.count - l.i) (record { drawn = drawn l.draft; tests = l.tests })
    ≡ compare_from l.node 0 l.step l.count (compared_none (drawn l.initial.draft)))
    × (length l.draft.words.items ≡ length l.initial.draft.words.items) × (length l.tests ≡ l.i)
