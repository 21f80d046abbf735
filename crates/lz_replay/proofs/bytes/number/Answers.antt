use Rattle.std.proofs.Common.{◌≡◌, true, ◌∙◌}
use Rattle.lz_replay.specs.Lines.{is_numeral}
use Rattle.lz_replay.proofs.LinesLemmas.{parsed_number}
use Rattle.lz_replay.proofs.bytes.number.Goals as goal

pub returns : goal.returns
returns c =
    let numeral : is_numeral c.args.bytes.now ≡ true = cc in
    c.ok.ensures.value ∙ parsed_number c.args.bytes.now c.parse.result numeral (rw c.text.ensures at c.parse.ensures.value.0)
