use Rattle.lz_lex.proofs.DigitsLemmas.{front_ascii}
use Rattle.lz_lex.proofs.bytes.word.Goals as goal

pub text-requires : goal.text-requires
text-requires c = rw (c.front.ensures, c.word_len.ensures.len) (front_ascii c.args.bytes.now)
