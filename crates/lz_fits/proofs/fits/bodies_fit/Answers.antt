use Rattle.std.proofs.Common.{◌∙◌, sym, arith}
use Rattle.lz_tree.specs.ScopedTrees.{scoped_definition}
use Rattle.lz_fits.proofs.FitsLemmas.{bodies_of, walk_end}
use Rattle.lz_fits.proofs.fits.bodies_fit.Goals as goal

pub returns : goal.returns
returns c = walk_end (omega arith) c.loop-item.invariant ∙ sym (bodies_of scoped_definition c.args.items.now)
