use Rattle.std.proofs.Common.{◌∙◌, sym}
use Rattle.lz_tree.specs.ScopedTrees.{scoped_statement}
use Rattle.lz_fits.proofs.FitsLemmas.{statement_so, so_statement}
use Rattle.lz_fits.proofs.fits.body_fits.Goals as goal

pub returns-clause-fits : goal.returns-clause-fits
returns-clause-fits c = λ h. statement_so (scoped_statement c.args.s.now) (sym c.statement_fits.ensures ∙ h)

pub returns-clause-only : goal.returns-clause-only
returns-clause-only c = λ h. c.statement_fits.ensures ∙ so_statement (scoped_statement c.args.s.now) h
