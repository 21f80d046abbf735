use Rattle.lz_log.proofs.TextLemmas.{one_text, no_bad_line}
use Rattle.lz_log.proofs.laws.one_proof_text.Goals as goal

pub returns-clause-one : goal.returns-clause-one
returns-clause-one c = one_text

pub returns-clause-good : goal.returns-clause-good
returns-clause-good c = no_bad_line
