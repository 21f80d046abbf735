use Rattle.std.proofs.Common.{◌∙◌}
use Rattle.lz_machine.proofs.PassingLemmas.{set_same, are_passed}
use Rattle.lz_machine.proofs.turn.pass.Goals as goal

pub loop-at-preserved : goal.loop-at-preserved
loop-at-preserved c = set_same _ _ c.loop-at.invariant (c.converted.ensures ∙ c.index.ensures)

pub returns-else-at-params : goal.returns-else-at-params
returns-else-at-params c = are_passed _ _ c.loop-at.invariant

pub returns-else-at-kinds : goal.returns-else-at-kinds
returns-else-at-kinds c = are_passed _ _ c.loop-at.invariant

pub returns-after-loop-at : goal.returns-after-loop-at
returns-after-loop-at c = are_passed _ _ c.loop-at.invariant
