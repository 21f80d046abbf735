use Rattle.lz_replay.proofs.LawsLemmas.{printed_read}
use Rattle.lz_replay.proofs.laws.printed_is_read.Goals as goal

pub returns : goal.returns
returns c = λ schedule within. record { lines = printed_read schedule within }
