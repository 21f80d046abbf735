use Rattle.lz_model.proofs.RunFrontsLemmas.{front_of_run}
use Rattle.lz_bound.specs.SlottedPrograms.{bounded_process, slotted_process}
use Rattle.lz_bound.proofs.TreeFrontsLemmas.{bounded_is_open, slotted_is_open}
use Rattle.lz_bound.proofs.laws.front_of_a_run.Goals as goal

pub returns-clause-bounded : goal.returns-clause-bounded
returns-clause-bounded c = λ p b front rest is. front_of_run (bounded_process p b) (bounded_is_open p b) front rest is

pub returns-clause-slotted : goal.returns-clause-slotted
returns-clause-slotted c = λ p s front rest is. front_of_run (slotted_process p s) (slotted_is_open p s) front rest is
