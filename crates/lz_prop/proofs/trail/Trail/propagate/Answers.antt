use Rattle.std.proofs.Common.{arith}
use Rattle.lz_prop.proofs.StoreLemmas.{length-cut}
use Rattle.lz_prop.proofs.KeptLemmas.{false_named, quiet_set}
use Rattle.lz_prop.proofs.trail.Trail.propagate.Goals as goal

pub overflow_cast-result : goal.overflow_cast-result
overflow_cast-result c =
    let s = c.propagate.new.self.store in
    let long = length-cut s.literals.items s.bounds.items in
    let few = c.propagate.ensures.kept.store.few in
    let within = c.in-Some.ensures.outcome.within in
    omega arith

pub overflow_add-result : goal.overflow_add-result
overflow_add-result c =
    let s = c.propagate.new.self.store in
    let long = length-cut s.literals.items s.bounds.items in
    let few = c.propagate.ensures.kept.store.few in
    let within = c.in-Some.ensures.outcome.within in
    omega arith

pub returns-in-Some-clause-outcome : goal.returns-in-Some-clause-outcome
returns-in-Some-clause-outcome c = false_named c.propagate.new.self c.in-Some.at c.in-Some.ensures.outcome

pub returns-clause-outcome : goal.returns-clause-outcome
returns-clause-outcome c = quiet_set c.propagate.new.self c.in_default.ensures.outcome
