use Rattle.std.proofs.Common.{◌≡◌, take}
use Rattle.lz_prop.specs.Stored.{IsStore, clauses_of}
use Rattle.lz_prop.proofs.inner.store_of.Given as goal

abbrev pub invariant-loop-clause : goal.invariant-loop-clause
invariant-loop-clause l = IsStore l.store × (clauses_of l.store ≡ take l.clause-index l.clause-items)
