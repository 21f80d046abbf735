use Rattle.std.proofs.Common.{drop}
use Rattle.lz_resolve.proofs.CellsLemmas.{Adds, words_of_declarators}
use Rattle.lz_resolve.proofs.cells.push_declarators.Given as goal

abbrev pub invariant-loop-d : goal.invariant-loop-d
invariant-loop-d l = Adds words_of_declarators l.initial.cells l.declarators l.cells (drop l.d-index l.declarators)
