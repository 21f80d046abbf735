use Rattle.std.proofs.Common.{ap, ◌∙◌}
use Rattle.lz_tree.specs.Trees.{expression}
use Rattle.lz_grammar.proofs.LabelLemmas.{object_whole}
use Rattle.lz_grammar.proofs.statement.name_of.Goals as goal

pub returns-in-None-clause-name : goal.returns-in-None-clause-name
returns-in-None-clause-name c = (c.in-Object.target.line, ap expression c.in-Object.is ∙ object_whole c.in-Object.target.line c.in-Object.target.name c.in-Object.target.index c.in-None.is)
