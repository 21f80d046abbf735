use Rattle.std.proofs.Common.{◌-◌}
use Rattle.lz_prop.specs.Walk.{IsHandling}
use Rattle.lz_prop.proofs.inner.Inner.handle.Given as goal

abbrev pub invariant-loop-self : goal.invariant-loop-self
invariant-loop-self l = IsHandling l.initial.self l.self

abbrev pub decreases-loop-self : goal.decreases-loop-self
decreases-loop-self l = l.self.variables - l.self.head
