use Rattle.lz_types.proofs.RecursionLemmas.{recursion_free}
use Rattle.lz_types.proofs.laws.no_function_recurs.Goals as goal

pub returns : goal.returns
returns c = recursion_free
