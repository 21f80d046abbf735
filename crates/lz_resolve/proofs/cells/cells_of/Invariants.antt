use Rattle.std.proofs.Common.{drop, []}
use Rattle.lz_resolve.proofs.CellsLemmas.{Adds, words_of_externals}
use Rattle.lz_resolve.proofs.cells.cells_of.Given as goal

abbrev pub invariant-loop-external : goal.invariant-loop-external
invariant-loop-external l = Adds words_of_externals [] l.externals l.cells (drop l.external-index l.externals)
