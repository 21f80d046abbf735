use Rattle.std.proofs.Common.{arith}
use Rattle.lz_tree.specs.ScopedTrees.{scoped_expression}
use Rattle.lz_slots.proofs.ArgumentLemmas.{number_of-of}
use Rattle.lz_slots.proofs.costs.callee_cost.Goals as goal

pub returns-in-Routine : goal.returns-in-Routine
returns-in-Routine c = rw (c.in-Routine.is, number_of-of scoped_expression c.args.args.now) (omega arith)
