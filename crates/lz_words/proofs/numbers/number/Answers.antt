use Rattle.std.proofs.Common.{◌≡◌, true, ◌∙◌}
use Rattle.lz_words.specs.CommandLine.{is_number}
use Rattle.lz_words.proofs.NumbersLemmas.{parsed_number}
use Rattle.lz_words.proofs.numbers.number.Goals as goal

pub returns : goal.returns
returns c =
    let numeral : is_number c.args.word.now ≡ true = cc in
    c.ok.ensures.value ∙ parsed_number c.args.word.now c.parse.result numeral c.parse.ensures.value.0
