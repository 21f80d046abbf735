use Rattle.lz_grammar.proofs.UniqueLemmas.{unique_declaration}
use Rattle.lz_grammar.proofs.one_declaration.Goals as goal

pub returns : goal.returns
returns c = unique_declaration
