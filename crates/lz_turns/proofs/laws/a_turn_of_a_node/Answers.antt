use Rattle.lz_model.specs.Programs.{calls_within}
use Rattle.lz_model.proofs.FrontsLemmas.{fronts_calls}
use Rattle.lz_turns.proofs.MovesLemmas.{turns_so}
use Rattle.lz_turns.proofs.laws.a_turn_of_a_node.Goals as goal

pub returns : goal.returns
returns c = λ p n depth e stage v locals. turns_so (calls_within p n depth) (fronts_calls p n depth) e stage v locals
