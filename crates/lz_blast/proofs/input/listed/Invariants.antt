use Rattle.std.proofs.Common.{◌≡◌, ◌++◌}
use Rattle.lz_blast.proofs.input.listed.Given as goal

abbrev pub invariant-loop-bits : goal.invariant-loop-bits
invariant-loop-bits l = l.list ++ l.bits-iterator.rest.items ≡ l.fn.inputs.items
