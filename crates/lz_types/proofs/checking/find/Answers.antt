use Rattle.lz_tree.specs.Trees.{translation_unit}
use Rattle.lz_tree.specs.ScopedTrees.{scoped_program}
use Rattle.lz_calls.specs.Facts.{facts_of}
use Rattle.lz_types.proofs.CheckingLemmas.{found_all}
use Rattle.lz_types.proofs.checking.find.Goals as goal

pub returns-clause-faults : goal.returns-clause-faults
returns-clause-faults c =
    found_all (translation_unit c.args.program.now) (scoped_program c.args.scoped.now) (facts_of c.in_ok-found.found) c.args.file.now c.set_found-order.new.file
    c.in_ok-faults.faults.items c.requires.scoped (rw c.items.ensures at c.in_ok-found.ensures.facts) c.requires.file
    c.set_found-order.ensures.file (rw c.items-2.ensures at c.in_ok-faults.ensures)
