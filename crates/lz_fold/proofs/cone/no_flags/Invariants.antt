use Rattle.std.proofs.Common.{◌≡◌, length}
use Rattle.lz_fold.proofs.cone.no_flags.Given as goal

abbrev pub invariant-loop : goal.invariant-loop
invariant-loop l = length l.flags.items ≡ l.counter
