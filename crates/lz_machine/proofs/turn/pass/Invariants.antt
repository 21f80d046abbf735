use Rattle.std.proofs.Common.{◌≡◌, ◌-◌, length}
use Rattle.lz_machine.proofs.turn.pass.Given as goal

-- the arguments are as they were
abbrev pub invariant-loop-at : goal.invariant-loop-at
invariant-loop-at l = l.values.items ≡ l.fn.values.items

abbrev pub decreases-loop-at : goal.decreases-loop-at
decreases-loop-at l = length l.params - l.at
