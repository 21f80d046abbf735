use Rattle.std.proofs.Common.{drop}
use Rattle.lz_resolve.proofs.CellsLemmas.{Adds, words_of_values}
use Rattle.lz_resolve.proofs.cells.push_words.Given as goal

abbrev pub invariant-loop-e : goal.invariant-loop-e
invariant-loop-e l = Adds words_of_values l.initial.cells l.values l.cells (drop l.e-index l.values)
