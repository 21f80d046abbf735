use Rattle.lz_grammar.proofs.UniqueLemmas.{unique_statement}
use Rattle.lz_grammar.proofs.one_statement.Goals as goal

pub returns : goal.returns
returns c = unique_statement
