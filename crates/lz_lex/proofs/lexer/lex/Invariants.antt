use Rattle.std.proofs.Common.{length}
use Rattle.lz_lex.specs.Views.{cutting}
use Rattle.lz_lex.proofs.CutLemmas.{IsAt}
use Rattle.lz_lex.proofs.lexer.lex.Given as goal

-- what is left is cut as the whole is
abbrev pub invariant-loop-rest : goal.invariant-loop-rest
invariant-loop-rest l = IsAt l.bytes l.rest (cutting l.at)

abbrev pub decreases-loop-rest : goal.decreases-loop-rest
decreases-loop-rest l = length l.rest
