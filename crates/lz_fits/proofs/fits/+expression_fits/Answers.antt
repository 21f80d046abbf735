use Rattle.std.proofs.Common.{◌∙◌, ap, sym, arith}
use Rattle.lz_tree.specs.ScopedTrees.{scoped_expression}
use Rattle.lz_tree.proofs.ScopedTreesLemmas.{is_scoped_call}
use Rattle.lz_fits.specs.Fits.{fits}
use Rattle.lz_fits.proofs.FitsLemmas.{all_of, walk_end}
use Rattle.lz_fits.proofs.fits.+expression_fits.Goals as goal

pub expression_fits-returns-in-Call : goal.expression_fits-returns-in-Call
expression_fits-returns-in-Call t c =
    let is = is_scoped_call c.args.e.now c.in-Call.line c.in-Call.callee c.in-Call.args c.in-Call.kind c.in-Call.is in
    let given = rw (← c.deref-in-Call.ensures.value) at (ap fits is) in
    rw given c.all_fit.ensures

pub all_fit-returns : goal.all_fit-returns
all_fit-returns t c = walk_end (omega arith) c.loop-item.invariant ∙ sym (all_of scoped_expression c.args.items.now)
