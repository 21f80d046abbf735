use Rattle.std.proofs.Common.{sym}
use Rattle.lz_lex.specs.Views.{cutting}
use Rattle.lz_lex.proofs.NamesLemmas.{worded-keyword, on_ok}
use Rattle.lz_lex.proofs.cutting.Cutting.push_word.Goals as goal

pub returns-in-Some : goal.returns-in-Some
returns-in-Some c = on_ok c.push_keyword.result _ c.push_keyword.ensures (sym (worded-keyword (cutting c.args.self.now) c.args.letters.now c.in-Some.word (sym c.in-Some.ensures)))
