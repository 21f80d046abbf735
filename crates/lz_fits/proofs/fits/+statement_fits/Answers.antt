use Rattle.std.proofs.Common.{◌∙◌, ap, sym, arith}
use Rattle.lz_tree.specs.ScopedTrees.{scoped_statement}
use Rattle.lz_tree.proofs.ScopedTreesLemmas.{is_scoped_block}
use Rattle.lz_fits.specs.Fits.{statement_fits}
use Rattle.lz_fits.proofs.FitsLemmas.{parts_of, walk_end}
use Rattle.lz_fits.proofs.fits.+statement_fits.Goals as goal

pub statement_fits-returns-in-Block : goal.statement_fits-returns-in-Block
statement_fits-returns-in-Block t c =
    let is = is_scoped_block c.args.s.now c.in-Block.parts c.in-Block.is in
    let given = rw (← c.deref.ensures.value) at (ap statement_fits is) in
    rw given c.parts_fit.ensures

pub parts_fit-returns : goal.parts_fit-returns
parts_fit-returns t c = walk_end (omega arith) c.loop-item.invariant ∙ sym (parts_of scoped_statement c.args.items.now)
