use Rattle.lz_replay.proofs.FollowsLemmas as lemmas
use Rattle.lz_replay.proofs.laws.one_answer.Goals as goal

pub returns : goal.returns
returns c = λ p n schedule one other s t. lemmas.one_answer p n schedule one other s t
