use Rattle.lz_words.proofs.LawLemmas as lemmas
use Rattle.lz_words.proofs.law.one_reading.Goals as goal

pub returns : goal.returns
returns c = λ words a b p q. lemmas.one_reading p q
