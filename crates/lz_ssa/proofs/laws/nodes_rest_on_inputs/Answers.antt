use Rattle.lz_ssa.proofs.ValueLemmas.{rest_on_inputs}
use Rattle.lz_ssa.proofs.laws.nodes_rest_on_inputs.Goals as goal

pub returns : goal.returns
returns c = rest_on_inputs
