use Rattle.std.proofs.Common.{◌∙◌, []}
use Rattle.std.proofs.lemmas.List.{get_or_default}
use Rattle.lz_blast.proofs.StepsLemmas.{steps_again}
use Rattle.lz_blast.proofs.input.add_again.Goals as goal

pub returns : goal.returns
returns c = record { steps = λ circuit. steps_again circuit _ _ c.requires.read (c.in_ok-copy.ensures ∙ c.index-inputs-number.is ∙ get_or_default c.args.inputs.now c.args.number _ [] c.requires.number) c.in_ok-push.ensures.ok }
