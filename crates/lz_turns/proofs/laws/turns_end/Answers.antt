use Rattle.lz_turns.proofs.RanksLemmas.{turn_falls}
use Rattle.lz_turns.proofs.laws.turns_end.Goals as goal

pub returns : goal.returns
returns c = λ e stage v locals. turn_falls e stage v locals
