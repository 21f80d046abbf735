use Rattle.lz_log.proofs.NewnessLemmas.{not_propagated}
use Rattle.lz_log.proofs.laws.new_clause_was_not_propagated.Goals as goal

pub returns : goal.returns
returns c = not_propagated
