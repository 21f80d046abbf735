use Rattle.lz_gates.proofs.FreedomLemmas.{free_start, free_gate, free_fresh, free_require}
use Rattle.lz_gates.proofs.laws.fresh_values_settle_gates.Goals as goal

pub returns-clause-start : goal.returns-clause-start
returns-clause-start c = free_start

pub returns-clause-gate : goal.returns-clause-gate
returns-clause-gate c = free_gate

pub returns-clause-fresh : goal.returns-clause-fresh
returns-clause-fresh c = free_fresh

pub returns-clause-required : goal.returns-clause-required
returns-clause-required c = free_require
