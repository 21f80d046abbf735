use Rattle.std.proofs.Common.{◌≡◌, ◌-◌, length}
use Rattle.lz_ssa.specs.declared.node.Node.TheVariants as nodes
use Rattle.lz_ssa.specs.Construction.{add, read_from}
use Rattle.lz_ssa.specs.Drafts.{drawn}
use Rattle.lz_ssa.proofs.expression.read.Given as goal

-- what is left makes the whole
abbrev pub invariant-loop-place : goal.invariant-loop-place
invariant-loop-place l =
    (read_from l.decoder l.first l.place (l.len - l.place) (record { drawn = drawn l.draft; node = l.so_far })
    ≡ read_from l.decoder l.first 0 l.len (add (nodes.Constant 0) (drawn l.fn.draft)))
    × (length l.draft.words.items ≡ length l.fn.draft.words.items)
