use Rattle.std.proofs.Common.{◌≡◌, ◌∙◌, ℕ, slice_index, ap, sym, arith}
use Rattle.lz_tree.specs.ScopedTrees.{scoped_statement}
use Rattle.lz_tree.proofs.ScopedTreesLemmas.{is_scoped_block}
use Rattle.lz_calls.specs.Calls.{height_of}
use Rattle.lz_calls.specs.Heights.{capped, counts_at}
use Rattle.lz_calls.proofs.TopsLemmas.{height_of_all-of, top_end}
use Rattle.lz_calls.proofs.heights.+statement_height.Goals as goal

pub parts_height-returns : goal.parts_height-returns
parts_height-returns t c =
    let counts : ℕ → ℕ = counts_at c.args.levels.now.ranks.now c.args.levels.now.own (slice_index c.args.levels.now.heights.now) in
    top_end (omega arith) c.loop-item.invariant ∙ ap capped (sym (height_of_all-of counts scoped_statement c.args.items.now))

pub statement_height-returns-in-Block : goal.statement_height-returns-in-Block
unfolding height_of
statement_height-returns-in-Block t c =
    let counts : ℕ → ℕ = counts_at c.args.levels.now.ranks.now c.args.levels.now.own (slice_index c.args.levels.now.heights.now) in
    let is = is_scoped_block c.args.s.now c.in-Block.parts c.in-Block.is in
    let given = rw (← c.deref.ensures.value) at (ap (λ s. capped (height_of counts s)) is) in
    omega (arith, c.above-in-Block.ensures, c.parts_height.ensures, given)
