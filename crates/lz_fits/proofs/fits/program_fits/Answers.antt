use Rattle.std.proofs.Common.{◌∙◌, ap, sym, map, List}
use Rattle.lz_tree.specs.declared.scoped.ScopedFunction.{ScopedFunction}
use Rattle.lz_tree.specs.ScopedTrees.{scoped_definition}
use Rattle.lz_fits.specs.Fits.{bodies_fit}
use Rattle.lz_fits.proofs.FitsLemmas.{bodies_so, so_bodies}
use Rattle.lz_fits.proofs.fits.program_fits.Goals as goal

pub returns-clause-fits : goal.returns-clause-fits
returns-clause-fits c = λ h. bodies_so (map scoped_definition c.args.program.now.functions) (sym (ap (λ (xs : List ScopedFunction). bodies_fit (map scoped_definition xs)) c.items.ensures) ∙ (sym c.bodies_fit.ensures ∙ h))

pub returns-clause-only : goal.returns-clause-only
returns-clause-only c = λ h. c.bodies_fit.ensures ∙ (ap (λ (xs : List ScopedFunction). bodies_fit (map scoped_definition xs)) c.items.ensures ∙ so_bodies (map scoped_definition c.args.program.now.functions) h)
