use Rattle.std.proofs.Common.{◌≡◌, ◌∙◌, ℕ, slice_index, ap, sym, arith}
use Rattle.lz_tree.specs.ScopedTrees.{scoped_declarator}
use Rattle.lz_calls.specs.Heights.{capped, counts_at}
use Rattle.lz_calls.proofs.TopsLemmas.{height_in_declarators-of, top_end}
use Rattle.lz_calls.proofs.heights.declaration_height.Goals as goal

pub returns : goal.returns
returns c =
    let counts : ℕ → ℕ = counts_at c.args.levels.now.ranks.now c.args.levels.now.own (slice_index c.args.levels.now.heights.now) in
    let all = rw c.items-items.ensures at (top_end (omega arith) c.loop-item.invariant) in
    all ∙ ap capped (sym (height_in_declarators-of counts scoped_declarator c.args.objects.now.declarators))
