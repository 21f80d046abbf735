use Rattle.lz_gates.proofs.ValuesLemmas.{below_formula, below_filled}
use Rattle.lz_gates.proofs.builder.Builder.finish.Goals as goal

pub returns-clause-formula : goal.returns-clause-formula
returns-clause-formula c = below_formula _ _ c.self.invariant.below

pub returns-clause-filled : goal.returns-clause-filled
returns-clause-filled c = below_filled _ _ c.self.invariant.below
