use Rattle.lz_gates.proofs.ValuesLemmas.{model_satisfies, satisfies_model}
use Rattle.lz_gates.proofs.laws.models_are_assignments.Goals as goal

pub returns-clause-satisfies : goal.returns-clause-satisfies
returns-clause-satisfies c = model_satisfies

pub returns-clause-model : goal.returns-clause-model
returns-clause-model c = satisfies_model
