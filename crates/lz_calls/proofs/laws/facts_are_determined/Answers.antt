use Rattle.lz_calls.proofs.UniqueLemmas.{one_facts}
use Rattle.lz_calls.proofs.laws.facts_are_determined.Goals as goal

pub returns : goal.returns
returns c = one_facts
