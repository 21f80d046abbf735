use Rattle.std.proofs.Common.{ap, ◌∙◌}
use Rattle.std.specs.Prelude.{option_map}
use Rattle.std.specs.Str.{bytes_eq}
use Rattle.lz_lex.specs.Views.{suffix}
use Rattle.lz_lex.proofs.DigitsLemmas.{find-map}
use Rattle.lz_lex.proofs.constant.suffix_among.Goals as goal

pub returns : goal.returns
returns c = ap (option_map suffix) c.find_suffix.ensures ∙ find-map suffix (λ s. bytes_eq c.args.letters.now s.letters) c.args.suffixes.now
