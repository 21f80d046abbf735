use Rattle.std.proofs.Common.{arith}
use Rattle.lz_solve.proofs.search.values_of.Goals as goal

pub unreachable-requires : goal.unreachable-requires
unreachable-requires c =
    let is = c.requires.assigned c.loop-variable.variable (omega arith) in
    let value = is.1 in
    let none = c.in-None.ensures in
    cc
