use Rattle.lz_prop.specs.Walk.{IsWalking}
use Rattle.lz_prop.proofs.inner.Inner.walk.Given as goal

abbrev pub invariant-loop : goal.invariant-loop
invariant-loop l = IsWalking l.initial.self l.self l.fn.lit l.before l.at l.counter l.end
