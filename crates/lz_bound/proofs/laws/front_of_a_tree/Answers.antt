use Rattle.lz_bound.proofs.TreeFrontsLemmas.{front_of_tree}
use Rattle.lz_bound.proofs.laws.front_of_a_tree.Goals as goal

pub returns : goal.returns
returns c = front_of_tree
