use Rattle.lz_choices.proofs.NoChoiceLemmas.{only_main_steps}
use Rattle.lz_choices.proofs.laws.only_main_steps.Goals as goal

pub returns : goal.returns
returns c = only_main_steps
