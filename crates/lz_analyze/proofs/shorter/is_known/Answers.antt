use Rattle.std.proofs.Common.{inr, sym, ◌∙◌}
use Rattle.lz_cnf.specs.Models.{variable_of}
use Rattle.lz_analyze.proofs.WalkingLemmas.{any_contains}
use Rattle.lz_analyze.proofs.shorter.is_known.Goals as goal

pub returns-else-lit-variable : goal.returns-else-lit-variable
returns-else-lit-variable c yes_ = inr (any_contains c.args.known.now.keys (variable_of c.args.lit) (sym c.contains.ensures ∙ yes_))
