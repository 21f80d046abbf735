use Rattle.lz_parse.proofs.ProgramsLemmas.{one}
use Rattle.lz_parse.proofs.program.one_program.Goals as goal

pub returns : goal.returns
returns c = one
