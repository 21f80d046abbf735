use Rattle.lz_prop.specs.Stored.{IsFilled}
use Rattle.lz_prop.proofs.store.Store.put.Given as goal

abbrev pub invariant-loop-lit : goal.invariant-loop-lit
invariant-loop-lit l = IsFilled l.initial.self l.self l.clause l.lit-index
