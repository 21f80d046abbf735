use Rattle.std.proofs.lemmas.Str.{IsUtf8-from_ascii}
use Rattle.lz_base.proofs.ResultLemmas.{ok_from}
use Rattle.lz_lex.proofs.bytes.text.Goals as goal

pub unwrap-requires : goal.unwrap-requires
unwrap-requires c = ok_from c.from_utf8.result _ _ c.from_utf8.ensures.cases (λ e bad. bad.0 (IsUtf8-from_ascii c.args.bytes.now c.requires))
