use Rattle.std.proofs.Common.{◌≡◌, replicate}
use Rattle.lz_flat_tests.proofs.marks.zeros.Given as goal

abbrev pub invariant-loop : goal.invariant-loop
invariant-loop l = l.first ≡ replicate l.counter 0
