use Rattle.std.proofs.Common.{◌-◌, length}
use Rattle.lz_prop.specs.Stored.{clauses_of}
use Rattle.lz_prop.specs.Walk.{IsLooking}
use Rattle.lz_prop.proofs.inner.Inner.look_at_new.Given as goal

abbrev pub invariant-loop-self : goal.invariant-loop-self
invariant-loop-self l = IsLooking l.initial.self l.self

abbrev pub decreases-loop-self : goal.decreases-loop-self
decreases-loop-self l = length (clauses_of l.self.store) - l.self.seen
