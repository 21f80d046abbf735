use Rattle.std.proofs.Common.{◌∙◌, sym, arith}
use Rattle.lz_tree.specs.ScopedTrees.{scoped_declarator}
use Rattle.lz_fits.proofs.FitsLemmas.{declarators_of, walk_end}
use Rattle.lz_fits.proofs.fits.declarators_fit.Goals as goal

pub returns : goal.returns
returns c = walk_end (omega arith) c.loop-item.invariant ∙ sym (declarators_of scoped_declarator c.args.items.now)
